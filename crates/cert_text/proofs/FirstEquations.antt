-- More equations than there are positions are refused for the first of them alone.
use Rattle.std.proofs.Common.{◌≡◌, ℕ, zero, suc, ◌<◌, ◌≤◌, List, [], ◌∷◌, ◌++◌, length, take}
use Rattle.std.proofs.Common.{drop, Bool, true, false, ◌||◌, ◌==◌, cond, Option, Some, None, option_map}
use Rattle.std.proofs.Common.{Ok, Err, refl, sym, ap, ap₂, ◌∙◌, subst, arith}
use Rattle.std.specs.Prelude.{map, Result, is_ok, is_some, option_and_then}
use Rattle.std.specs.List.{list_all, list_any, IsDistinct}
use Rattle.std.specs.Str.{bytes_eq}
use Rattle.std.proofs.lemmas.Bool.{and_from, and_parts, eqb-true, false≢true, or_left, or_right}
use Rattle.std.proofs.lemmas.Cmp.{nat_list_eq_equiv}
use Rattle.std.proofs.lemmas.List.{length-map}
use Rattle.std.proofs.lemmas.Map.Made.{length-le_from_is_member}
use Rattle.std.proofs.lemmas.Slice.Eq.{bytes_eq-Decides}
use Rattle.fs_model.specs.Machines.{Fsmd}
use Rattle.fs_model.specs.declared.sides.Side.{Side}
use Rattle.fs_model.specs.declared.sides.Side.TheVariants.{Left, Right}
use Rattle.fs_model.specs.Sides.{same_side}
use Rattle.fs_ast.specs.Places.{first_place}
use Rattle.fs_pair.specs.declared.positions.Position.{Position}
use Rattle.fs_pair.specs.Partners.{position_name}
use Rattle.nf_terms.specs.declared.form.Nf.{Nf}
use Rattle.cert_facts.specs.declared.faults.CertError.{CertError}
use Rattle.cert_terms.specs.CertificateNames.{names_on, place_named, place_within, name_place, place_by_key}
use Rattle.cert_facts.specs.FactReading.{TermContext, known_place, equation_put, equations_read}
use Rattle.cert_facts.specs.PartAnswers.{then_part}

-- ---- the names of positions

abbrev letter : Side → ℕ
letter Left = 76
letter Right = 82

same_letter : (s t : Side) → same_side s t ≡ true → letter s ≡ letter t
same_letter Left Left e = refl
same_letter Left Right e = absurd (false≢true e)
same_letter Right Left e = absurd (false≢true e)
same_letter Right Right e = refl

-- the key of a position
abbrev position_key : (a b : Fsmd) → Position → List ℕ
position_key a b p = letter p.pos.side ∷ 46 ∷ position_name a b p.pos

same_bytes : (x y : List ℕ) → x ≡ y → bytes_eq x y ≡ true
same_bytes x y e = (bytes_eq-Decides x y).1 e

after_first : (o : Option ℕ) → is_some (option_map suc o) ≡ true → is_some o ≡ true
after_first None e = e
after_first (Some k) e = refl

module _ (a b : Fsmd) (side : Side) (c : ℕ) (cs : List ℕ) where
  key_at : (p : Position) (s : Bool) → same_side p.pos.side side ≡ s → bytes_eq (cond s (position_name a b p.pos) []) (c ∷ cs) ≡ true
      → bytes_eq (letter side ∷ 46 ∷ c ∷ cs) (position_key a b p) ≡ true
  key_at p true of same =
      let name : position_name a b p.pos ≡ c ∷ cs = (bytes_eq-Decides (position_name a b p.pos) (c ∷ cs)).0 same in
      same_bytes _ _ (ap₂ (λ l (x : List ℕ). l ∷ 46 ∷ x) (sym (same_letter p.pos.side side of)) (sym name))
  key_at p false of same = absurd (false≢true same)

  listed_at : (p : Position) (ps : List Position) (t : Bool) → bytes_eq (cond (same_side p.pos.side side) (position_name a b p.pos) []) (c ∷ cs) ≡ t
      → (is_some (first_place (names_on a b side ps) (c ∷ cs)) ≡ true
      → list_any (bytes_eq (letter side ∷ 46 ∷ c ∷ cs)) (map (position_key a b) ps) ≡ true)
      → is_some (cond t (Some 0) (option_map suc (first_place (names_on a b side ps) (c ∷ cs)))) ≡ true
      → list_any (bytes_eq (letter side ∷ 46 ∷ c ∷ cs)) (map (position_key a b) (p ∷ ps)) ≡ true
  listed_at p ps true is more e = or_left _ _ (key_at p (same_side p.pos.side side) refl is)
  listed_at p ps false is more e = or_right _ _ (more (after_first (first_place (names_on a b side ps) (c ∷ cs)) e))

  listed : (ps : List Position) → is_some (first_place (names_on a b side ps) (c ∷ cs)) ≡ true
      → list_any (bytes_eq (letter side ∷ 46 ∷ c ∷ cs)) (map (position_key a b) ps) ≡ true
  listed [] e = absurd (false≢true e)
  listed (p ∷ ps) e =
      listed_at p ps (bytes_eq (cond (same_side p.pos.side side) (position_name a b p.pos) []) (c ∷ cs)) refl (listed ps) e

before : (f : ℕ → Option ℕ) (o : Option ℕ) → is_some (option_and_then f o) ≡ true → is_some o ≡ true
before f None e = e
before f (Some k) e = refl

module _ (a b : Fsmd) (ps : List Position) (format : ℕ) where
  named : (side : Side) (x : List ℕ) → is_some (place_named a b ps side x) ≡ true
      → list_any (bytes_eq (letter side ∷ 46 ∷ x)) (map (position_key a b) ps) ≡ true
  named side [] e = absurd (false≢true e)
  named side (c ∷ cs) e = listed a b side c cs ps e

  named_within : (side : Side) (x : List ℕ) → is_some (name_place (place_named a b ps) ps format side x) ≡ true
      → list_any (bytes_eq (letter side ∷ 46 ∷ x)) (map (position_key a b) ps) ≡ true
  named_within side x e = named side x (before (place_within format ps) (place_named a b ps side x) e)

  abbrev place : Side → List ℕ → Option ℕ
  place = name_place (place_named a b ps) ps format

  on_right : (t : Bool) (s : ℕ) (x : List ℕ) → (s == 82) ≡ t → is_some (cond t (place Right x) None) ≡ true
      → list_any (bytes_eq (s ∷ 46 ∷ x)) (map (position_key a b) ps) ≡ true
  on_right true s x is e =
      subst (λ l. list_any (bytes_eq (l ∷ 46 ∷ x)) (map (position_key a b) ps) ≡ true) (sym (eqb-true s 82 is)) (named_within Right x e)
  on_right false s x is e = absurd (false≢true e)

  on_left : (t : Bool) (s : ℕ) (x : List ℕ) → (s == 76) ≡ t → is_some (cond t (place Left x) (cond (s == 82) (place Right x) None)) ≡ true
      → list_any (bytes_eq (s ∷ 46 ∷ x)) (map (position_key a b) ps) ≡ true
  on_left true s x is e =
      subst (λ l. list_any (bytes_eq (l ∷ 46 ∷ x)) (map (position_key a b) ps) ≡ true) (sym (eqb-true s 76 is)) (named_within Left x e)
  on_left false s x is e = on_right (s == 82) s x refl e

  at_point : (t : Bool) (s c : ℕ) (x : List ℕ) → (c == 46) ≡ t
      → is_some (cond t (cond (s == 76) (place Left x) (cond (s == 82) (place Right x) None)) None) ≡ true
      → list_any (bytes_eq (s ∷ c ∷ x)) (map (position_key a b) ps) ≡ true
  at_point true s c x is e =
      subst (λ d. list_any (bytes_eq (s ∷ d ∷ x)) (map (position_key a b) ps) ≡ true) (sym (eqb-true c 46 is)) (on_left (s == 76) s x refl e)
  at_point false s c x is e = absurd (false≢true e)

  -- a key that is known is one of a position
  known_listed : (q : List ℕ) → is_some (place_by_key place q) ≡ true → list_any (bytes_eq q) (map (position_key a b) ps) ≡ true
  known_listed [] e = absurd (false≢true e)
  known_listed (s ∷ []) e = absurd (false≢true e)
  known_listed (s ∷ c ∷ x) e = at_point (c == 46) s c x refl e

  all_listed_at : (t : Bool) (q k : List ℕ) (rest : Bool) → bytes_eq q k ≡ t → is_some (place_by_key place k) ≡ true
      → (rest ≡ true → list_any (bytes_eq q) (map (position_key a b) ps) ≡ true) → (t || rest) ≡ true
      → list_any (bytes_eq q) (map (position_key a b) ps) ≡ true
  all_listed_at true q k rest is known more e =
      subst (λ j. list_any (bytes_eq j) (map (position_key a b) ps) ≡ true) (sym ((bytes_eq-Decides q k).0 is)) (known_listed k known)
  all_listed_at false q k rest is known more e = more e

  all_listed : (es : List (List ℕ × List ℕ)) → list_all (λ e. is_some (place_by_key place e.0)) es ≡ true → (q : List ℕ)
      → list_any (bytes_eq q) (map (λ e. e.0) es) ≡ true → list_any (bytes_eq q) (map (position_key a b) ps) ≡ true
  all_listed [] h q e = absurd (false≢true e)
  all_listed (f ∷ es) h q e =
      let p = and_parts (is_some (place_by_key place f.0)) (list_all (λ e. is_some (place_by_key place e.0)) es) h in
      all_listed_at (bytes_eq q f.0) q f.0 (list_any (bytes_eq q) (map (λ e. e.0) es)) refl p.0 (all_listed es p.1 q) e

  -- known keys that differ are no more than there are positions
  pub few_known : (es : List (List ℕ × List ℕ)) → IsDistinct bytes_eq (map (λ e. e.0) es) → list_all (λ e. is_some (place_by_key place e.0)) es ≡ true
      → length es ≤ length ps
  few_known es apart h =
      let le : length (map (λ (e : List ℕ × List ℕ). e.0) es) ≤ length (map (position_key a b) ps) =
      length-le_from_is_member nat_list_eq_equiv (map (λ e. e.0) es) (map (position_key a b) ps) apart (all_listed es h) in
      omega (arith, le, length-map es (λ (e : List ℕ × List ℕ). e.0), length-map ps (position_key a b))

-- ---- equations that are read

known_first : {X Y Z : Type 0} (i : ℕ) (o : Option ℕ) (f : ℕ → Result X CertError) (g : X → Result Y CertError) (h : Y → Result Z CertError)
    → is_ok (then_part (then_part (then_part (known_place i o) f) g) h) ≡ true → is_some o ≡ true
known_first i None f g h e = e
known_first i (Some k) f g h e = refl

then_rest : {X Y : Type 0} (y : Result X CertError) (f : X → Result Y CertError) (P : Type 0) → is_ok (then_part y f) ≡ true
    → ((x : X) → is_ok (f x) ≡ true → P) → P
then_rest (Ok x) f P e more = more x e
then_rest (Err d) f P e more = absurd (false≢true e)

then_again : {X Y Z : Type 0} (y : Result X CertError) (f : X → Result Y CertError) (g : X → Result Z CertError) (h : Y → Result Z CertError)
    → ((x : X) → g x ≡ then_part (f x) h) → then_part y g ≡ then_part (then_part y f) h
then_again (Ok x) f g h same = same x
then_again (Err d) f g h same = refl

halves : {X : Type 0} (n : ℕ) (xs : List X) → take n xs ++ drop n xs ≡ xs
halves zero xs = refl
halves (suc n) [] = refl
halves (suc n) (x ∷ xs) = ap (λ ys. x ∷ ys) (halves n xs)

all_taken : {X : Type 0} (n : ℕ) (xs : List X) → length (take n xs) < n → take n xs ≡ xs
all_taken zero xs less = absurd (omega (arith, less))
all_taken (suc n) [] less = refl
all_taken (suc n) (x ∷ xs) less = ap (λ ys. x ∷ ys) (all_taken n xs (omega (arith, less)))

module _ (c : TermContext) (i : ℕ) where
  reads_known : (fs : List (Option Nf)) (es : List (List ℕ × List ℕ)) → is_ok (equations_read c i fs es) ≡ true
      → list_all (λ e. is_some (place_by_key (name_place c.place c.positions c.format) e.0)) es ≡ true
  reads_known fs [] h = refl
  reads_known fs (e ∷ es) h =
      and_from _ _ (known_first i (place_by_key (name_place c.place c.positions c.format) e.0) _ _ _ h)
      (then_rest (equation_put c i fs e) (λ gs. equations_read c i gs es) _ h (λ gs more. reads_known gs es more))

  reads_more : (fs : List (Option Nf)) (es more : List (List ℕ × List ℕ))
      → equations_read c i fs (es ++ more) ≡ then_part (equations_read c i fs es) (λ gs. equations_read c i gs more)
  reads_more fs [] more = refl
  reads_more fs (e ∷ es) more =
      then_again (equation_put c i fs e) (λ gs. equations_read c i gs es) (λ gs. equations_read c i gs (es ++ more)) (λ gs. equations_read c i gs more)
      (λ gs. reads_more gs es more)

  first_read_at : (n : ℕ) (fs : List (Option Nf)) (es : List (List ℕ × List ℕ)) (y : Result (List (Option Nf)) CertError)
      → equations_read c i fs (take n es) ≡ y → (is_ok y ≡ true → length (take n es) < n)
      → equations_read c i fs (take n es) ≡ equations_read c i fs es
  first_read_at n fs es (Ok gs) is few = ap (equations_read c i fs) (all_taken n es (few refl))
  first_read_at n fs es (Err d) is few =
      is ∙ sym (ap (λ y. then_part y (λ gs. equations_read c i gs (drop n es))) is) ∙ sym (reads_more fs (take n es) (drop n es))
      ∙ ap (equations_read c i fs) (halves n es)

  -- the first equations are read as all are, where they are fewer or are refused
  pub first_read : (n : ℕ) (fs : List (Option Nf)) (es : List (List ℕ × List ℕ))
      → (list_all (λ e. is_some (place_by_key (name_place c.place c.positions c.format) e.0)) (take n es) ≡ true → length (take n es) < n)
      → equations_read c i fs (take n es) ≡ equations_read c i fs es
  first_read n fs es few = first_read_at n fs es (equations_read c i fs (take n es)) refl (λ ok. few (reads_known fs (take n es) ok))
