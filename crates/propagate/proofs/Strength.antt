-- A join makes a fact smaller where something of it is missing.
use Rattle.std.proofs.Common.{◌≡◌, ℕ, zero, suc, ◌+◌, ◌≤◌, ◌<◌, ◌==◌, arith, Bool, true, false, cond, refl, sym, subst, ap, ◌∙◌, List, [], ◌∷◌, length, Option}
use Rattle.std.proofs.Common.{Some, None}
use Rattle.std.specs.Prelude.{◌&&◌, ◌||◌, not, is_some, is_none, take}
use Rattle.std.proofs.lemmas.List.{length-map}
use Rattle.std.proofs.lemmas.Bool.{or_right}
use Rattle.fs_model.proofs.Numbers.{eqb_self}
use Rattle.nf_terms.specs.Computed.{Computed, Done, after}
use Rattle.fs_model.specs.declared.sides.Pos.{Pos}
use Rattle.nf_terms.specs.declared.form.Nf.{Nf}
use Rattle.nf_terms.specs.declared.form.Nf.TheVariants.{Num, Arr, Seq}
use Rattle.nf_sums.proofs.Values.{goes_done}
use Rattle.nf_rel.specs.Literals.{NormalLiteral}
use Rattle.sym_paths.specs.Sequences.{each}
use Rattle.sym_paths.specs.Execution.{Post}
use Rattle.fs_pair.specs.declared.positions.Position.{Position}
use Rattle.sym_facts.specs.Facts.{FactPosition, Fact, most_literals}
use Rattle.sym_facts.specs.Entailment.{equation_met, literal_met, false_places, Missing, entails, is_nothing}
use Rattle.propagate.specs.Strength.{with_equation_count, strength}
use Rattle.propagate.specs.Joins.{Freed, tied_equation, with_equation, freed_with, position_joined, is_among, positions_joined, literals_kept, join}
use Rattle.propagate.specs.Rebases.{with_needed, rebase}
use Rattle.propagate.proofs.Joined.{joining}
use Rattle.propagate.proofs.Rebased.{rebasing}
use Rattle.propagate.proofs.Paired.{rebase_paired}

abbrev count : List FactPosition → ℕ
count = with_equation_count

abbrev one_if : Option Nf → ℕ
one_if None = 0
one_if (Some f) = 1

none_adds : (x : Option Nf) (m n : ℕ) → x ≡ None → m ≤ n → cond (is_none x) 0 1 + m ≤ 0 + n
none_adds None m n s h = omega arith
none_adds (Some f) m n s h = absurd (cc s)

one_less : (x y : Option Nf) (f : Nf) (m n : ℕ) → x ≡ None → y ≡ Some f → m ≤ n → cond (is_none x) 0 1 + m < cond (is_none y) 0 1 + n
one_less None None f m n s g h = absurd (cc g)
one_less None (Some y) f m n s g h = omega arith
one_less (Some x) y f m n s g h = absurd (cc s)

-- ---- a join adds no equation
no_more_step :
    (v : List (Pos × Nf)) (b : Bool) (p : FactPosition) (o : Option Nf) → p.equation ≡ o
    → (fs : List Freed) (later : List Freed → Computed (List FactPosition)) (qs : List FactPosition) (n : ℕ)
    → ((gs : List Freed) (rs : List FactPosition) → later gs ≡ Done rs → count rs ≤ n)
    → position_joined v b p o fs later ≡ Done qs → count qs ≤ one_if o + n
no_more_step v false p o s fs later qs n next e =
    let t = goes_done (later fs) (λ rest. Done (p ∷ rest)) qs e in
    let k : p ∷ t.middle ≡ qs = cc t.next in
    subst (λ z. count z ≤ one_if o + n) k (of_one p.equation o s (next fs t.middle t.first))
  where
    of_one : (x o : Option Nf) → x ≡ o → {m : ℕ} → m ≤ n → cond (is_none x) 0 1 + m ≤ one_if o + n
    of_one None None s h = omega arith
    of_one None (Some f) s h = absurd (cc s)
    of_one (Some g) None s h = absurd (cc s)
    of_one (Some g) (Some f) s h = omega arith
no_more_step v true p None s fs later qs n next e =
    let t = goes_done (later fs) (λ rest. Done (p ∷ rest)) qs e in
    let k : p ∷ t.middle ≡ qs = cc t.next in
    subst (λ z. count z ≤ 0 + n) k (none_adds p.equation (count t.middle) n s (next fs t.middle t.first))
no_more_step v true p (Some f) s fs later qs n next e =
    let i = goes_done (tied_equation v p.pos f fs) (λ r. after (later (freed_with p.pos f r fs)) (λ rest. Done (with_equation p r ∷ rest))) qs e in
    let t = goes_done (later (freed_with p.pos f i.middle fs)) (λ rest. Done (with_equation p i.middle ∷ rest)) qs i.next in
    let k : with_equation p i.middle ∷ t.middle ≡ qs = cc t.next in
    subst (λ z. count z ≤ 1 + n) k (at_most_one i.middle (next (freed_with p.pos f i.middle fs) t.middle t.first))
  where
    at_most_one : (x : Option Nf) → {m : ℕ} → m ≤ n → cond (is_none x) 0 1 + m ≤ 1 + n
    at_most_one None h = omega arith
    at_most_one (Some g) h = omega arith

count_step : (p : FactPosition) (ps : List FactPosition) → one_if p.equation + count ps ≡ count (p ∷ ps)
count_step p ps = of_one p.equation
  where
    of_one : (o : Option Nf) → one_if o + count ps ≡ cond (is_none o) 0 1 + count ps
    of_one None = refl
    of_one (Some f) = refl

no_more : (v : List (Pos × Nf)) (k : ℕ) (missing : List ℕ) (fs : List Freed) (ps qs : List FactPosition) → positions_joined v k missing fs ps ≡ Done qs
    → count qs ≤ count ps
no_more v k missing fs [] qs e = let s : [] ≡ qs = cc e in subst (λ z. count z ≤ 0) s (omega arith)
no_more v k missing fs (p ∷ ps) qs e =
    subst (λ z. count qs ≤ z) (count_step p ps)
    (no_more_step v (is_among k missing) p p.equation refl fs (λ gs. positions_joined v (k + 1) missing gs ps) qs (count ps)
    (λ gs rs i. no_more v (k + 1) missing gs ps rs i) e)

-- ---- the first equation that fails goes
abbrev fails : ℕ → List ℕ → List FactPosition → Bool
fails k missing [] = false
fails k missing (p ∷ ps) = (is_among k missing && is_some p.equation) || fails (k + 1) missing ps

first_freed : (v : List (Pos × Nf)) (p : Pos) (f : Nf) (o : Option Nf) → tied_equation v p f [] ≡ Done o → o ≡ None
first_freed v p (Num t) o e = let k : None ≡ o = cc e in sym k
first_freed v p (Arr a) o e = let k : None ≡ o = cc e in sym k
first_freed v p (Seq l) o e = let k : None ≡ o = cc e in sym k

fewer : (v : List (Pos × Nf)) (k : ℕ) (missing : List ℕ) (ps qs : List FactPosition) → positions_joined v k missing [] ps ≡ Done qs → fails k missing ps ≡ true
    → count qs < count ps
fewer v k missing [] qs e h = absurd (cc h)
fewer v k missing (p ∷ ps) qs e h =
    by_position (is_among k missing) p.equation refl e h (λ rs i g. fewer v (k + 1) missing ps rs i g) (λ gs rs i. no_more v (k + 1) missing gs ps rs i)
  where
    kept : after (positions_joined v (k + 1) missing [] ps) (λ rest. Done (p ∷ rest)) ≡ Done qs → fails (k + 1) missing ps ≡ true
        → ((rs : List FactPosition) → positions_joined v (k + 1) missing [] ps ≡ Done rs → fails (k + 1) missing ps ≡ true → count rs < count ps)
        → count qs < count (p ∷ ps)
    kept e h next =
        let t = goes_done (positions_joined v (k + 1) missing [] ps) (λ rest. Done (p ∷ rest)) qs e in
        let s : p ∷ t.middle ≡ qs = cc t.next in
        let g = next t.middle t.first h in
        subst (λ z. count z < count (p ∷ ps)) s (omega (arith, g))

    by_position : (b : Bool) (o : Option Nf) → p.equation ≡ o → position_joined v b p o [] (λ gs. positions_joined v (k + 1) missing gs ps) ≡ Done qs
        → (b && is_some o) || fails (k + 1) missing ps ≡ true
        → ((rs : List FactPosition) → positions_joined v (k + 1) missing [] ps ≡ Done rs → fails (k + 1) missing ps ≡ true → count rs < count ps)
        → ((gs : List Freed) (rs : List FactPosition) → positions_joined v (k + 1) missing gs ps ≡ Done rs → count rs ≤ count ps) → count qs < count (p ∷ ps)
    by_position false o s e h next same = kept e h next
    by_position true None s e h next same = kept e h next
    by_position true (Some f) s e h next same =
        let i = goes_done (tied_equation v p.pos f [])
        (λ r. after (positions_joined v (k + 1) missing (freed_with p.pos f r []) ps) (λ rest. Done (with_equation p r ∷ rest))) qs e in
        let t = goes_done (positions_joined v (k + 1) missing (freed_with p.pos f i.middle []) ps) (λ rest. Done (with_equation p i.middle ∷ rest)) qs i.next in
        let n : with_equation p i.middle ∷ t.middle ≡ qs = cc t.next in
        subst (λ z. count z < count (p ∷ ps)) n
        (one_less i.middle p.equation f (count t.middle) (count ps) (first_freed v p.pos f i.middle i.first) s
        (same (freed_with p.pos f i.middle []) t.middle t.first))

-- ---- literals
abbrev drops : ℕ → List ℕ → List NormalLiteral → Bool
drops k missing [] = false
drops k missing (l ∷ ls) = is_among k missing || drops (k + 1) missing ls

pub no_more_literals : (k : ℕ) (missing : List ℕ) (ls : List NormalLiteral) → length (literals_kept k missing ls) ≤ length ls
no_more_literals k missing [] = omega arith
no_more_literals k missing (l ∷ ls) = by_test (is_among k missing) (no_more_literals (k + 1) missing ls)
  where
    by_test : (b : Bool) → length (literals_kept (k + 1) missing ls) ≤ length ls
        → length (cond b (literals_kept (k + 1) missing ls) (l ∷ literals_kept (k + 1) missing ls)) ≤ length (l ∷ ls)
    by_test true h = omega arith
    by_test false h = omega arith

fewer_literals : (k : ℕ) (missing : List ℕ) (ls : List NormalLiteral) → drops k missing ls ≡ true → length (literals_kept k missing ls) < length ls
fewer_literals k missing [] h = absurd (cc h)
fewer_literals k missing (l ∷ ls) h = by_test (is_among k missing) h (no_more_literals (k + 1) missing ls) (λ g. fewer_literals (k + 1) missing ls g)
  where
    by_test : (b : Bool) → b || drops (k + 1) missing ls ≡ true → length (literals_kept (k + 1) missing ls) ≤ length ls
        → (drops (k + 1) missing ls ≡ true → length (literals_kept (k + 1) missing ls) < length ls)
        → length (cond b (literals_kept (k + 1) missing ls) (l ∷ literals_kept (k + 1) missing ls)) < length (l ∷ ls)
    by_test true g same next = omega arith
    by_test false g same next = let i = next g in omega (arith, i)

-- ---- what is missing is among what fails
abbrev Listed : ℕ → List ℕ → List Bool → Type 0
Listed k missing [] = Unit {0}
Listed k missing (b ∷ bs) = (b ≡ false → is_among k missing ≡ true) × Listed (k + 1) missing bs

longer : (k j : ℕ) (missing : List ℕ) (bs : List Bool) → Listed k missing bs → Listed k (j ∷ missing) bs
longer k j missing [] h = tt
longer k j missing (b ∷ bs) h = ((λ e. or_right (j == k) (is_among k missing) (h.0 e)), longer (k + 1) j missing bs h.1)

false_listed : (k : ℕ) (bs : List Bool) → Listed k (false_places k bs) bs
false_listed k [] = tt
false_listed k (true ∷ bs) = ((λ e. absurd (cc e)), false_listed (k + 1) bs)
false_listed k (false ∷ bs) =
    ((λ e. ap (λ z. z || is_among k (false_places (k + 1) bs)) (eqb_self k)), longer (k + 1) k (false_places (k + 1) bs) bs (false_listed (k + 1) bs))

abbrev has_false : List Bool → Bool
has_false [] = false
has_false (b ∷ bs) = not b || has_false bs

some_false : (k : ℕ) (bs : List Bool) → length (false_places k bs) == 0 ≡ false → has_false bs ≡ true
some_false k [] e = absurd (cc e)
some_false k (true ∷ bs) e = some_false (k + 1) bs e
some_false k (false ∷ bs) e = refl

equations_fail : (v : List (Pos × Nf)) (k : ℕ) (missing : List ℕ) (ps : List FactPosition) (bs : List Bool)
    → each (λ p. equation_met v p.pos p.equation) ps ≡ Done bs → Listed k missing bs → has_false bs ≡ true → fails k missing ps ≡ true
equations_fail v k missing [] bs e h g = let s : [] ≡ bs = cc e in let i : has_false [] ≡ true = ap has_false s ∙ g in absurd (cc i)
equations_fail v k missing (p ∷ ps) bs e h g =
    let s = goes_done (equation_met v p.pos p.equation) (λ y. after (each (λ q. equation_met v q.pos q.equation) ps) (λ ys. Done (y ∷ ys))) bs e in
    let t = goes_done (each (λ q. equation_met v q.pos q.equation) ps) (λ ys. Done (s.middle ∷ ys)) bs s.next in
    let i : s.middle ∷ t.middle ≡ bs = cc t.next in
    let m : Listed k missing (s.middle ∷ t.middle) = subst (Listed k missing) (sym i) h in
    by_test s.middle p.equation s.first m.0 t.middle (ap has_false i ∙ g) (λ j. equations_fail v (k + 1) missing ps t.middle t.first m.1 j)
  where
    by_test : (b : Bool) (o : Option Nf) → equation_met v p.pos o ≡ Done b → (b ≡ false → is_among k missing ≡ true) → (bs : List Bool)
        → not b || has_false bs ≡ true → (has_false bs ≡ true → fails (k + 1) missing ps ≡ true)
        → (is_among k missing && is_some o) || fails (k + 1) missing ps ≡ true
    by_test true o e a bs f next = or_right (is_among k missing && is_some o) (fails (k + 1) missing ps) (next f)
    by_test false None e a bs f next = absurd (cc e)
    by_test false (Some x) e a bs f next = ap (λ z. (z && true) || fails (k + 1) missing ps) (a refl)

literals_drop : (post : Post) (k : ℕ) (missing : List ℕ) (ls : List NormalLiteral) (bs : List Bool) → each (λ l. literal_met post l) ls ≡ Done bs
    → Listed k missing bs → has_false bs ≡ true → drops k missing ls ≡ true
literals_drop post k missing [] bs e h g = let s : [] ≡ bs = cc e in let i : has_false [] ≡ true = ap has_false s ∙ g in absurd (cc i)
literals_drop post k missing (l ∷ ls) bs e h g =
    let s = goes_done (literal_met post l) (λ y. after (each (λ q. literal_met post q) ls) (λ ys. Done (y ∷ ys))) bs e in
    let t = goes_done (each (λ q. literal_met post q) ls) (λ ys. Done (s.middle ∷ ys)) bs s.next in
    let i : s.middle ∷ t.middle ≡ bs = cc t.next in
    let m : Listed k missing (s.middle ∷ t.middle) = subst (Listed k missing) (sym i) h in
    by_test s.middle m.0 t.middle (ap has_false i ∙ g) (λ j. literals_drop post (k + 1) missing ls t.middle t.first m.1 j)
  where
    by_test : (b : Bool) → (b ≡ false → is_among k missing ≡ true) → (bs : List Bool) → not b || has_false bs ≡ true
        → (has_false bs ≡ true → drops (k + 1) missing ls ≡ true) → is_among k missing || drops (k + 1) missing ls ≡ true
    by_test true a bs f next = or_right (is_among k missing) (drops (k + 1) missing ls) (next f)
    by_test false a bs f next = ap (λ z. z || drops (k + 1) missing ls) (a refl)

pub join_weaker : (old new : Fact) (post : Post) (missing : Missing) → entails post old ≡ Done missing → is_nothing missing ≡ false
    → join old post missing ≡ Done new → strength new < strength old
join_weaker old new post missing g n e =
    let j = joining old new post missing e in
    let a = goes_done (each (λ p. equation_met post.vector p.pos p.equation) old.positions)
    (λ es. after (each (λ l. literal_met post l) old.literals) (λ ls. Done (record { equations = false_places 0 es; literals = false_places 0 ls }))) missing g
    in
    let b = goes_done (each (λ l. literal_met post l) old.literals)
    (λ ls. Done (record { equations = false_places 0 a.middle; literals = false_places 0 ls })) missing a.next in
    let f : record { equations = false_places 0 a.middle; literals = false_places 0 b.middle } ≡ missing = cc b.next in
    let fe : false_places 0 a.middle ≡ missing.equations = ap (λ (z : Missing). z.equations) f in
    let fl : false_places 0 b.middle ≡ missing.literals = ap (λ (z : Missing). z.literals) f in
    let le : Listed 0 missing.equations a.middle = subst (λ z. Listed 0 z a.middle) fe (false_listed 0 a.middle) in
    let ll : Listed 0 missing.literals b.middle = subst (λ z. Listed 0 z b.middle) fl (false_listed 0 b.middle) in
    subst (λ (z : Fact). strength z < strength old) j.whole
    (by_tests (length missing.equations == 0) (length missing.literals == 0) n
    (λ i. fewer post.vector 0 missing.equations old.positions j.positions j.joined
    (equations_fail post.vector 0 missing.equations old.positions a.middle a.first le (some_false 0 a.middle (ap (λ z. length z == 0) fe ∙ i))))
    (λ i. fewer_literals 0 missing.literals old.literals
    (literals_drop post 0 missing.literals old.literals b.middle b.first ll (some_false 0 b.middle (ap (λ z. length z == 0) fl ∙ i))))
    (no_more post.vector 0 missing.equations [] old.positions j.positions j.joined) (no_more_literals 0 missing.literals old.literals))
  where
    by_tests : (x y : Bool) → x && y ≡ false → {a b c d : ℕ} → (x ≡ false → a < b) → (y ≡ false → c < d) → a ≤ b → c ≤ d → a + c < b + d
    by_tests true true n h g k l = absurd (cc n)
    by_tests true false n h g k l = let i = g refl in omega (arith, i)
    by_tests false y n h g k l = let i = h refl in omega (arith, i)

-- ---- a rebased fact has at most one equation a position, and few literals
count_bounded : (qs : List FactPosition) → count qs ≤ length qs
count_bounded [] = omega arith
count_bounded (q ∷ qs) = of_one q.equation (count_bounded qs)
  where
    of_one : (o : Option Nf) → count qs ≤ length qs → cond (is_none o) 0 1 + count qs ≤ length (q ∷ qs)
    of_one None h = omega arith
    of_one (Some f) h = omega arith

taken_bounded : (n : ℕ) (ls : List NormalLiteral) → length (take n ls) ≤ n
taken_bounded zero ls = omega arith
taken_bounded (suc n) [] = omega arith
taken_bounded (suc n) (l ∷ ls) = let h = taken_bounded n ls in omega (arith, h)

pub few_literals : (post : Post) (ps : List Position) (f : Fact) → rebase post ps ≡ Done f → length f.literals ≤ most_literals
few_literals post ps f e =
    let r = rebasing post ps f e in
    subst (λ (z : Fact). length z.literals ≤ most_literals) r.whole (taken_bounded most_literals (with_needed [] r.literals))

pub rebase_bounded : (post : Post) (ps : List Position) (f : Fact) → rebase post ps ≡ Done f → strength f ≤ length ps + most_literals
rebase_bounded post ps f e =
    let a = count_bounded f.positions in
    let b = few_literals post ps f e in
    let c : length f.positions ≡ length ps = sym (length-map f.positions (λ (q : FactPosition). q.sort)) ∙ ap length (rebase_paired post ps f e).sorts
    ∙ length-map ps (λ (p : Position). p.sort) in
    total (count f.positions) (length f.literals) (length f.positions) (length ps) most_literals a b c
  where
    total : (x y q p m : ℕ) → x ≤ q → y ≤ m → q ≡ p → x + y ≤ p + m
    total x y q p m a b c = omega arith
