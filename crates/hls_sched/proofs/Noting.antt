-- Arrivals, as branches are noted one after another.
use Rattle.std.proofs.Common.{◌≡◌, ℕ, ◌+◌, ◌<◌, List, [], ◌∷◌, ◌++◌, length, map, take, refl, sym, ◌∙◌, ap, arith, false, append-nil, append_assoc}
use Rattle.std.specs.Prelude.{◌≢◌, ◌==◌, filter}
use Rattle.std.specs.List.{slice_index_or, range_with_len, flat_map}
use Rattle.std.proofs.lemmas.Grind.{flat_map-append}
use Rattle.std.proofs.lemmas.List.{map-append, map-id, take_more}
use Rattle.std.proofs.lemmas.List.Elements.{filter-append}
use Rattle.std.proofs.lemmas.List.FromFn.{map-range_with_len_more}
use Rattle.fs_model.specs.declared.parts.StateId.{StateId}
use Rattle.fs_model.specs.declared.parts.Branch.{Branch as CodeBranch}
use Rattle.fs_model.specs.Machines.{Fsmd, transitions_of}
use Rattle.fs_model.specs.Trees.{Branch, branches_of}
use Rattle.fs_model.specs.View.{branch_of}
use Rattle.hls_block_filling.specs.BasicBlocks.{is_only}
use Rattle.hls_sched.specs.declared.arrivals.Arrivals.{Arrivals}
use Rattle.hls_sched.specs.declared.arrivals.Arrivals.TheVariants.{Once}
use Rattle.hls_sched.specs.Arrivals.{arrivals_of, source_per_branch}

-- ---- one state
pub one_source : (p : StateId) (qs : List ℕ) → Once p ≡ arrivals_of qs → qs ≡ p.0 ∷ []
one_source p [] e = absurd (cc e)
one_source p (q ∷ []) e = let f : p ≡ record { 0 = q } = cc e in ap (λ (s : StateId). s.0 ∷ []) (sym f)
one_source p (q ∷ r ∷ rest) e = absurd (cc e)

pub not_only : (a : Arrivals) (q : ℕ) (qs : List ℕ) → ((p : StateId) → a ≢ Once p) → a ≡ arrivals_of qs → false ≡ is_only q qs
not_only a q [] n e = refl
not_only a q (p ∷ []) n e = absurd (n (record { 0 = p }) e)
not_only a q (p ∷ r ∷ rest) n e = refl

-- ---- the branches of a state
leading_both : (q r : ℕ) (xs ys : List Branch) → source_per_branch q r (xs ++ ys) ≡ source_per_branch q r xs ++ source_per_branch q r ys
leading_both q r xs ys =
    ap (map (λ (b : Branch). q)) (filter-append (λ (b : Branch). b.target == r) xs ys)
    ∙ map-append (λ (b : Branch). q) (filter (λ (b : Branch). b.target == r) xs) (filter (λ (b : Branch). b.target == r) ys)

pub leading_more : (q r i : ℕ) (bs : List CodeBranch) (b : CodeBranch) (qs : List ℕ) → i < length bs → b ≡ slice_index_or bs i b
    → (qs ++ source_per_branch q r (map branch_of (take i bs))) ++ source_per_branch q r (branch_of b ∷ []) ≡ qs
    ++ source_per_branch q r (map branch_of (take (i + 1) bs))
leading_more q r i bs b qs h e =
    let one : take i bs ++ b ∷ [] ≡ take (i + 1) bs = ap (λ (z : CodeBranch). take i bs ++ z ∷ []) e ∙ sym (take_more bs i b h) in
    append_assoc qs (source_per_branch q r (map branch_of (take i bs))) (source_per_branch q r (branch_of b ∷ []))
    ∙ ap (λ l. qs ++ l)
    (sym (leading_both q r (map branch_of (take i bs)) (branch_of b ∷ []))
    ∙ ap (source_per_branch q r) (sym (map-append branch_of (take i bs) (b ∷ [])) ∙ ap (map branch_of) one))

-- ---- the states of a machine
-- the sources of a state among the first k states
abbrev pub first_sources : Fsmd → ℕ → ℕ → List ℕ
first_sources m k r = flat_map (λ q. source_per_branch q r (branches_of (transitions_of m q))) (range_with_len 0 k)

range_more : (k : ℕ) → range_with_len 0 (k + 1) ≡ range_with_len 0 k ++ k ∷ []
range_more k = sym (map-id (range_with_len 0 (k + 1))) ∙ map-range_with_len_more (λ x. x) 0 k k (omega arith)
    ∙ ap (λ l. l ++ k ∷ []) (map-id (range_with_len 0 k))

pub sources_more : (m : Fsmd) (k r : ℕ) (bs : List Branch) → bs ≡ branches_of (transitions_of m k)
    → first_sources m k r ++ source_per_branch k r bs ≡ first_sources m (k + 1) r
sources_more m k r bs e =
    let here : ℕ → List ℕ = λ q. source_per_branch q r (branches_of (transitions_of m q)) in
    ap (λ l. first_sources m k r ++ source_per_branch k r l) e
    ∙ ap (λ l. first_sources m k r ++ l) (sym (append-nil (here k)))
    ∙ sym (flat_map-append here (range_with_len 0 k) (k ∷ []))
    ∙ ap (flat_map here) (sym (range_more k))
