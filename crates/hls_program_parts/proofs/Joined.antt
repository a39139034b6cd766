-- One block after another: how many statements, and which states.
use Rattle.std.proofs.Common.{◌≡◌, ℕ, suc, ◌+◌, ◌≤◌, ◌<◌, ◌^◌, List, [], ◌∷◌, ◌++◌, length, sym, refl, ◌∙◌, ap, arith, ap₂, append_assoc, append-nil}
use Rattle.std.specs.Prelude.{min}
use Rattle.std.proofs.Math.Nat.{min-eq_left}
use Rattle.std.proofs.lemmas.List.{nil_from_length}
use Rattle.fs_model.specs.Expressions.{Assignment, Guard, Transition}
use Rattle.hls_program_parts.specs.Programs.{Block, End, Do, If, While, join_blocks}
use Rattle.hls_program_parts.specs.Compiled.{count, first, always, where_holds, states_of, state_name, named_state, numbered_states}
use Rattle.fs_model.specs.Source.{SourceState}
use Rattle.hls_program_parts.proofs.Numbers.{length_states}
use Rattle.hls_program_parts.specs.declared.program.Stmt.{Stmt}
use Rattle.hls_program_parts.specs.View.{block_of_statement, block_of}

pub count_joined : {X : Type 0} (a b : Block X) → count (join_blocks a b) ≡ count a + count b
count_joined End b = omega arith
count_joined (Do line a rest) b = omega (arith, count_joined rest b)
count_joined (If line g y z rest) b = omega (arith, count_joined rest b)
count_joined (While line g body rest) b = omega (arith, count_joined rest b)

pub first_joined : {X : Type 0} (a b : Block X) (n k : ℕ) → first (join_blocks a b) n k ≡ first a n (first b (n + count a) k)
first_joined End b n k = ap (λ i. first b i k) (omega arith)
first_joined (Do line a rest) b n k = refl
first_joined (If line g y z rest) b n k = refl
first_joined (While line g body rest) b n k = refl

pub states_joined : {X S : Type 0} (at : ℕ → S) (a b : Block X) (n k : ℕ)
    → states_of at (join_blocks a b) n k ≡ states_of at a n (first b (n + count a) k) ++ states_of at b (n + count a) k
states_joined at End b n k = let e : n ≡ n + 0 = omega arith in ap (λ i. states_of at b i k) e
states_joined at (Do line a rest) b n k =
    let e : suc n + count rest ≡ n + suc (count rest) = omega arith in
    rw (first_joined rest b (suc n) k, states_joined at rest b (suc n) k, e) refl
states_joined at (If line g y z rest) b n k =
    let other = suc n + count y in
    let after = other + count z in
    let e : after + count rest ≡ n + suc (count y + (count z + count rest)) = omega arith in
    rw (first_joined rest b after k, states_joined at rest b after k, e) (simp append_assoc refl)
states_joined at (While line g body rest) b n k =
    let after = suc n + count body in
    let e : after + count rest ≡ n + suc (count body + count rest) = omega arith in
    rw (first_joined rest b after k, states_joined at rest b after k, e) (simp append_assoc refl)

numbered_joined : (n m : ℕ) (a b : List (ℕ × List (Transition (List ℕ) (List ℕ)))) → m ≡ n + length a
    → numbered_states n (a ++ b) ≡ numbered_states n a ++ numbered_states m b
numbered_joined n m [] b e = let z : n ≡ m = omega (arith, e) in ap (λ i. numbered_states i b) z
numbered_joined n m (s ∷ a) b e = ap (λ (xs : List SourceState). named_state n s ∷ xs) (numbered_joined (suc n) m a b (omega (arith, e)))

-- the states of a block in front of another
pub block_numbered : (a b : Block (List ℕ)) (n k : ℕ)
    → numbered_states n (states_of state_name (join_blocks a b) n k) ≡ numbered_states n (states_of state_name a n (first b (n + count a) k))
    ++ numbered_states (n + count a) (states_of state_name b (n + count a) k)
block_numbered a b n k =
    let xs = states_of state_name a n (first b (n + count a) k) in
    ap (numbered_states n) (states_joined state_name a b n k)
    ∙ numbered_joined n (n + count a) xs (states_of state_name b (n + count a) k) (omega (arith, length_states state_name a n (first b (n + count a) k)))

-- the states of a choice
pub if_numbered : (line : ℕ) (g : Guard (List ℕ)) (y z : Block (List ℕ)) (n k : ℕ) → let other = n + 1 + count y in
    numbered_states n (states_of state_name (If line g y z End) n k) ≡ named_state n
    (line, where_holds g (state_name (first y (n + 1) k)) ∷ always (state_name (first z other k)) [] ∷ [])
    ∷ (numbered_states (n + 1) (states_of state_name y (n + 1) k) ++ numbered_states other (states_of state_name z other k))
if_numbered line g y z n k =
    let ys = states_of state_name y (suc n) k in
    let zs = states_of state_name z (suc n + count y) k in
    let e : n + 1 ≡ suc n = omega arith in
    let f : n + 1 + count y ≡ suc n + count y = omega arith in
    rw (f, e, append-nil zs)
    (ap
    (λ (xs : List SourceState). named_state n (line, where_holds g (state_name (first y (suc n) k)) ∷ always (state_name (first z (suc n + count y) k)) [] ∷ [])
    ∷ xs) (numbered_joined (suc n) (suc n + count y) ys zs (omega (arith, length_states state_name y (suc n) k))))

-- the states of a repetition
pub while_numbered : (line : ℕ) (g : Guard (List ℕ)) (body : Block (List ℕ)) (n k : ℕ)
    → numbered_states n (states_of state_name (While line g body End) n k)
    ≡ named_state n (line, where_holds g (state_name (first body (n + 1) n)) ∷ always (state_name k) [] ∷ [])
    ∷ numbered_states (n + 1) (states_of state_name body (n + 1) n)
while_numbered line g body n k =
    let e : n + 1 ≡ suc n = omega arith in
    rw (e, append-nil (states_of state_name body (suc n) n)) refl

-- ---- counts as far as 32 bits go

pub few_enough : (size n : ℕ) → size ≡ min n 4294967295 → n ≤ 4294967295 → size ≡ n
few_enough size n e h = e ∙ min-eq_left h

-- the first of statements that are few enough
pub few_first : (rest behind : List Stmt) (one : Stmt) (total begin size : ℕ) → rest ≡ one ∷ behind → count (block_of rest) ≤ total → begin + total < 2 ^ 32
    → size ≡ min (count (block_of_statement one)) 4294967295 → size ≡ count (block_of_statement one)
few_first rest behind one total begin size e h few s =
    let counts : count (block_of rest) ≡ count (block_of_statement one) + count (block_of behind) = ap (λ ss. count (block_of ss)) e
    ∙ count_joined (block_of_statement one) (block_of behind) in
    few_enough size (count (block_of_statement one)) s (omega (arith, counts, h, few))

-- the first block of a choice that is small enough
pub few_yes : (whole : Block (List ℕ)) (line : ℕ) (g : Guard (List ℕ)) (y z : Block (List ℕ)) (begin size : ℕ) → whole ≡ If line g y z End
    → begin + count whole < 2 ^ 32 → size ≡ min (count y) 4294967295 → size ≡ count y
few_yes whole line g y z begin size e few s =
    let counts : count whole ≡ suc (count y + (count z + 0)) = ap count e in
    few_enough size (count y) s (omega (arith, counts, few))

pub all_counted : (rest all : List Stmt) (total : ℕ) → rest ≡ [] → (min (total + count (block_of rest)) 4294967295 ≡ min (count (block_of all)) 4294967295)
    × (count (block_of rest) ≤ count (block_of all)) × (total ≤ 4294967295)
    → total ≡ min (count (block_of all)) 4294967295
all_counted rest all total e i =
    let none : total + count (block_of rest) ≡ total = ap (λ ss. total + count (block_of ss)) e ∙ omega arith in
    sym (min-eq_left i.2) ∙ ap (λ n. min n 4294967295) (sym none) ∙ i.0

-- one turn of the loop over statements
pub turned : (done more next_done all : List SourceState) (rest behind : List Stmt) (one : Stmt) (total number begin size next follow : ℕ) → rest ≡ one ∷ behind
    → (count (block_of rest) ≤ total) × (number + count (block_of rest) ≡ begin + total)
    × (done ++ numbered_states number (states_of state_name (block_of rest) number follow) ≡ all)
    → next_done ≡ done ++ numbered_states number (states_of state_name (block_of_statement one) number next)
    → next ≡ first (block_of behind) (number + size) follow → size ≡ count (block_of_statement one)
    → (count (block_of behind) ≤ total) × (number + size + count (block_of behind) ≡ begin + total)
    × (next_done ++ numbered_states (number + size) (states_of state_name (block_of behind) (number + size) follow) ≡ all)
turned done more next_done all rest behind one total number begin size next follow e i s n z =
    let b = block_of behind in
    let counts : count (block_of rest) ≡ size + count b = ap (λ ss. count (block_of ss)) e ∙ count_joined (block_of_statement one) b ∙ omega (arith, z) in
    let split : numbered_states number (states_of state_name (block_of rest) number follow)
    ≡ numbered_states number (states_of state_name (block_of_statement one) number next)
    ++ numbered_states (number + size) (states_of state_name b (number + size) follow) =
    ap (λ ss. numbered_states number (states_of state_name (block_of ss) number follow)) e
    ∙ rw (n, z) (block_numbered (block_of_statement one) b number follow) in (
      omega (arith, i.0, counts),
      omega (arith, i.1, counts),
      ap (λ (xs : List SourceState). xs ++ numbered_states (number + size) (states_of state_name b (number + size) follow)) s
          ∙ append_assoc done (numbered_states number (states_of state_name (block_of_statement one) number next))
          (numbered_states (number + size) (states_of state_name b (number + size) follow))
          ∙ ap (λ (xs : List SourceState). done ++ xs) (sym split) ∙ i.2,
    )

-- the loop over statements at its end
pub ended : (done all : List SourceState) (rest : List Stmt) (number follow : ℕ) → length rest ≡ 0
    → done ++ numbered_states number (states_of state_name (block_of rest) number follow) ≡ all → done ≡ all
ended done all rest number follow e h =
    sym (append-nil done)
    ∙ ap (λ (ss : List Stmt). done ++ numbered_states number (states_of state_name (block_of ss) number follow)) (sym (nil_from_length rest e))
    ∙ h

-- the state of an assignment
pub step_turned : (old new : List SourceState) (whole : Block (List ℕ)) (line : ℕ) (a : Assignment (List ℕ)) (n k : ℕ) → whole ≡ Do line a End
    → new ≡ old ++ named_state n (line, always (state_name k) (a ∷ []) ∷ []) ∷ [] → new ≡ old ++ numbered_states n (states_of state_name whole n k)
step_turned old new whole line a n k w p = p ∙ ap (λ (b : Block (List ℕ)). old ++ numbered_states n (states_of state_name b n k)) (sym w)

-- the state of a repetition, and then those of its body
pub while_turned : (old new last : List SourceState) (whole : Block (List ℕ)) (line : ℕ) (g : Guard (List ℕ)) (body : Block (List ℕ)) (n k to : ℕ)
    → whole ≡ While line g body End → new ≡ old ++ named_state n (line, where_holds g (state_name to) ∷ always (state_name k) [] ∷ []) ∷ []
    → to ≡ first body (n + 1) n → last ≡ new ++ numbered_states (n + 1) (states_of state_name body (n + 1) n)
    → last ≡ old ++ numbered_states n (states_of state_name whole n k)
while_turned old new last whole line g body n k to w p t l =
    let rest : List SourceState = numbered_states (n + 1) (states_of state_name body (n + 1) n) in
    let here : ℕ → SourceState = λ j. named_state n (line, where_holds g (state_name j) ∷ always (state_name k) [] ∷ []) in
    l
    ∙ ap (λ (xs : List SourceState). xs ++ rest) p
    ∙ append_assoc old (here to ∷ []) rest
    ∙ ap (λ (xs : List SourceState). old ++ xs)
    (ap (λ j. here j ∷ rest) t ∙ sym (while_numbered line g body n k)
    ∙ ap (λ (b : Block (List ℕ)). numbered_states n (states_of state_name b n k)) (sym w))

-- the state of a choice, and then those of its two blocks
pub if_turned : (old new middle last : List SourceState) (whole : Block (List ℕ)) (line : ℕ) (g : Guard (List ℕ)) (y z : Block (List ℕ))
    (n k other to otherwise : ℕ)
    → whole ≡ If line g y z End → new ≡ old ++ named_state n (line, where_holds g (state_name to) ∷ always (state_name otherwise) [] ∷ []) ∷ []
    → other ≡ n + 1 + count y → to ≡ first y (n + 1) k → otherwise ≡ first z other k
    → middle ≡ new ++ numbered_states (n + 1) (states_of state_name y (n + 1) k) → last ≡ middle ++ numbered_states other (states_of state_name z other k)
    → last ≡ old ++ numbered_states n (states_of state_name whole n k)
if_turned old new middle last whole line g y z n k other to otherwise w p o t u m l =
    let ys = numbered_states (n + 1) (states_of state_name y (n + 1) k) in
    let zs = numbered_states other (states_of state_name z other k) in
    let here : ℕ → ℕ → SourceState = λ a b. named_state n (line, where_holds g (state_name a) ∷ always (state_name b) [] ∷ []) in
    let r : numbered_states n (states_of state_name (If line g y z End) n k) ≡ here (first y (n + 1) k) (first z other k) ∷ (ys ++ zs) =
    rw o (if_numbered line g y z n k) in
    l
    ∙ ap (λ (xs : List SourceState). xs ++ zs) (m ∙ ap (λ (xs : List SourceState). xs ++ ys) p)
    ∙ ap (λ (xs : List SourceState). xs ++ zs) (append_assoc old (here to otherwise ∷ []) ys)
    ∙ append_assoc old (here to otherwise ∷ ys) zs
    ∙ ap (λ (xs : List SourceState). old ++ xs)
    (ap₂ (λ a b. here a b ∷ (ys ++ zs)) t u ∙ sym r ∙ ap (λ (b : Block (List ℕ)). numbered_states n (states_of state_name b n k)) (sym w))

-- the counts and the states of blocks that are joined
pub ruleset joined_blocks = (count_joined, if_numbered, while_numbered)
