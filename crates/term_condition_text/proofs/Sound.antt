-- The parts that bytes are taken apart into make up the bytes.
use Rattle.std.proofs.Common.{◌≡◌, ℕ, Bool, true, false, cond, ◌==◌, ◌&&◌, List, [], ◌∷◌, ◌++◌, take, drop, codes, Option, Some, None, refl, sym, ap, ◌∙◌}
use Rattle.std.specs.Prelude.{IfSome, option_map, option_and_then}
use Rattle.std.specs.Str.{bytes_eq}
use Rattle.std.proofs.lemmas.Bool.{eqb-true, and_parts}
use Rattle.std.proofs.lemmas.List.{take-append-drop}
use Rattle.std.proofs.lemmas.Slice.Eq.{bytes_eq-Decides}
use Rattle.nf_rel.specs.declared.kind.Kind.{Kind}
use Rattle.nf_rel.specs.declared.kind.Kind.TheVariants.{Ge, Le, Eq, Ne}
use Rattle.term_text.specs.SpellableTerms.{is_number_text}
use Rattle.term_condition_text.specs.ConditionTexts.{Integer, ZeroInteger, Positive, Negative, integer_text, integer_spelled, kind_text}
use Rattle.term_condition_text.specs.ConditionParts.{cut, relation_at, relation_in, integer_of, condition_parts}

cond_then : {X : Type 0} (c : Bool) (x y : Option X) (P : X → Type 0) → (c ≡ true → IfSome x P) → (c ≡ false → IfSome y P) → IfSome (cond c x y) P
cond_then true x y P f g = f refl
cond_then false x y P f g = g refl

four : (a b c d : ℕ) (k : Kind) → a ≡ 32 → b ∷ [] ≡ take 1 (drop 1 (kind_text k)) → c ≡ 61 → d ≡ 32 → a ∷ b ∷ c ∷ d ∷ [] ≡ kind_text k
four a b c d Ge e f g h = cc
four a b c d Le e f g h = cc
four a b c d Eq e f g h = cc
four a b c d Ne e f g h = cc

kind_at_is : (a b c d : ℕ) → IfSome (relation_at a b c d) (λ k. a ∷ b ∷ c ∷ d ∷ [] ≡ kind_text k)
kind_at_is a b c d =
    let P : Kind → Type 0 = λ k. a ∷ b ∷ c ∷ d ∷ [] ≡ kind_text k in
    cond_then (a == 32 && c == 61 && d == 32) _ None P
    (λ e.
    let p = and_parts (a == 32 && c == 61) (d == 32) e in
    let q = and_parts (a == 32) (c == 61) p.0 in
    let a32 = eqb-true a 32 q.0 in
    let c61 = eqb-true c 61 q.1 in
    let d32 = eqb-true d 32 p.1 in
    cond_then (b == 62) (Some Ge) _ P (λ f. four a b c d Ge a32 (ap (λ x. x ∷ []) (eqb-true b 62 f)) c61 d32)
    (λ f. cond_then (b == 60) (Some Le) _ P (λ g. four a b c d Le a32 (ap (λ x. x ∷ []) (eqb-true b 60 g)) c61 d32)
    (λ g. cond_then (b == 61) (Some Eq) _ P (λ h. four a b c d Eq a32 (ap (λ x. x ∷ []) (eqb-true b 61 h)) c61 d32)
    (λ h. cond_then (b == 33) (Some Ne) None P (λ j. four a b c d Ne a32 (ap (λ x. x ∷ []) (eqb-true b 33 j)) c61 d32) (λ j. tt)))))
    (λ e. tt)

mapped : (o : Option Kind) (head rest : List ℕ) → IfSome o (λ k. head ≡ kind_text k)
    → IfSome {T = Kind × List ℕ} (option_map (λ k. (k, rest)) o) (λ x. head ++ rest ≡ kind_text x.0 ++ x.1)
mapped None head rest h = tt
mapped (Some k) head rest h = ap (λ xs. xs ++ rest) h

kind_is : (bs : List ℕ) → IfSome (relation_in bs) (λ x. bs ≡ kind_text x.0 ++ x.1)
kind_is [] = tt
kind_is (a ∷ []) = tt
kind_is (a ∷ b ∷ []) = tt
kind_is (a ∷ b ∷ c ∷ []) = tt
kind_is (a ∷ b ∷ c ∷ d ∷ rest) = mapped (relation_at a b c d) (a ∷ b ∷ c ∷ d ∷ []) rest (kind_at_is a b c d)

abbrev IsIntegerOf : List ℕ → Integer → Type 0
IsIntegerOf bs i = (bs ≡ integer_text i) × (integer_spelled i ≡ true)

integer_is : (bs : List ℕ) → IfSome (integer_of bs) (IsIntegerOf bs)
integer_is [] = tt
integer_is (b ∷ bs) =
    cond_then (b == 45) _ _ (IsIntegerOf (b ∷ bs))
    (λ e. cond_then (is_number_text bs) (Some (Negative bs)) None (IsIntegerOf (b ∷ bs)) (λ f. (ap (λ x. x ∷ bs) (eqb-true b 45 e), f)) (λ f. tt))
    (λ e. cond_then (bytes_eq (b ∷ bs) (codes "0")) (Some ZeroInteger) _ (IsIntegerOf (b ∷ bs)) (λ f. ((bytes_eq-Decides (b ∷ bs) (codes "0")).0 f, refl))
    (λ f. cond_then (is_number_text (b ∷ bs)) (Some (Positive (b ∷ bs))) None (IsIntegerOf (b ∷ bs)) (λ g. (refl, g)) (λ g. tt)))

-- what the parts say of the bytes
abbrev pub ArePartsOf : List ℕ → List ℕ × Kind × Integer → Type 0
ArePartsOf bytes x = (bytes ≡ x.0 ++ (kind_text x.1 ++ integer_text x.2)) × (integer_spelled x.2 ≡ true)

with_integer : (bytes front back rest : List ℕ) (k : Kind) (o : Option Integer) → front ++ back ≡ bytes → back ≡ kind_text k ++ rest
    → IfSome o (IsIntegerOf rest) → IfSome (option_map (λ i. (front, k, i)) o) (ArePartsOf bytes)
with_integer bytes front back rest k None e f h = tt
with_integer bytes front back rest k (Some i) e f h = (sym e ∙ ap (λ xs. front ++ xs) (f ∙ ap (λ xs. kind_text k ++ xs) h.0), h.1)

with_kind : (bytes front back : List ℕ) (o : Option (Kind × List ℕ)) → front ++ back ≡ bytes → IfSome o (λ x. back ≡ kind_text x.0 ++ x.1)
    → IfSome (option_and_then (λ x. option_map (λ i. (front, x.0, i)) (integer_of x.1)) o) (ArePartsOf bytes)
with_kind bytes front back None e h = tt
with_kind bytes front back (Some x) e h = with_integer bytes front back x.1 x.0 (integer_of x.1) e h (integer_is x.1)

pub parts_are : (bytes : List ℕ) → IfSome (condition_parts bytes) (ArePartsOf bytes)
parts_are bytes = with_kind bytes (take (cut bytes) bytes) (drop (cut bytes) bytes) (relation_in (drop (cut bytes) bytes)) (take-append-drop (cut bytes) bytes)
    (kind_is (drop (cut bytes) bytes))
