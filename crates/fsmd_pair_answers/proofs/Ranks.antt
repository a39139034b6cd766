-- Ranks are determined by the graph, and a certificate by its table.
use Rattle.std.proofs.Common.{◌≡◌, ℕ, zero, suc, ◌<◌, ◌≤◌, refl, sym, ◌∙◌, ap, ap₂, arith, List, [], ◌∷◌, length, map, Option, Some, None}
use Rattle.std.specs.Prelude.{max, slice_get, slice_index}
use Rattle.std.specs.List.{AllByRecursion}
use Rattle.cert_bisimulation.specs.declared.mode.Mode.{Mode}
use Rattle.cert_bisimulation.specs.Tables.{Node as CertificateNode}
use Rattle.search_tables.specs.Modes.{Found}
use Rattle.sym_facts.specs.Facts.{Fact}
use Rattle.search_tables.specs.Graphs.{AreRanks, above}
use Rattle.search_tables.specs.SearchTables.{MachinePair, SearchNode, Table}
use Rattle.search_tables.specs.Next.{mode_at}
use Rattle.search_tables.specs.LoneMoves.{lone_moves}
use Rattle.search_tables.specs.Certifying.{node_without_mode, Certifies}

-- ---- ranks
past : (xs : List ℕ) (i : ℕ) → length xs ≤ i → slice_index xs i ≡ 0
past [] i h = refl
past (x ∷ xs) zero h = absurd (omega arith)
past (x ∷ xs) (suc i) h = past xs i (omega arith)

equal_lists : (xs ys : List ℕ) → length xs ≡ length ys → ((i : ℕ) → slice_index xs i ≡ slice_index ys i) → xs ≡ ys
equal_lists [] [] e h = refl
equal_lists [] (y ∷ ys) e h = absurd (omega arith)
equal_lists (x ∷ xs) [] e h = absurd (omega arith)
equal_lists (x ∷ xs) (y ∷ ys) e h = ap₂ (λ z zs. z ∷ zs) (h 0) (equal_lists xs ys (omega arith) (λ i. h (suc i)))

same_above : (xs ys js : List ℕ) (n : ℕ) → ((j : ℕ) → slice_index xs j < n → slice_index xs j ≡ slice_index ys j) → above xs js ≤ n → above xs js ≡ above ys js
same_above xs ys [] n h le = refl
same_above xs ys (j ∷ js) n h le =
    let here : slice_index xs j ≡ slice_index ys j = h j (omega arith) in
    let rest : above xs js ≡ above ys js = same_above xs ys js n h (omega arith) in
    ap₂ (λ a b. max (suc a) b) here rest

none_past : (E : List (List ℕ)) (k : ℕ) → slice_get E k ≡ None → length E ≤ k
none_past [] k e = omega arith
none_past (a ∷ E) zero e = absurd (cc e)
none_past (a ∷ E) (suc k) e = let h = none_past E k e in omega (arith, h)

module _ (E : List (List ℕ)) (xs ys : List ℕ) (are : AreRanks E xs) (too : AreRanks E ys) where
  same_at : (n i : ℕ) → ((j : ℕ) → slice_index xs j < n → slice_index xs j ≡ slice_index ys j) → slice_index xs i < suc n → (o : Option (List ℕ))
      → slice_get E i ≡ o → slice_index xs i ≡ slice_index ys i
  same_at n i lower h (Some js) e =
      let x : slice_index xs i ≡ above xs js = are.each i js e in
      x ∙ same_above xs ys js n lower (omega arith) ∙ sym (too.each i js e)
  same_at n i lower h None e =
      let out : length E ≤ i = none_past E i e in
      past xs i (omega (arith, are.count)) ∙ sym (past ys i (omega (arith, too.count)))

  same_below : (n i : ℕ) → slice_index xs i < n → slice_index xs i ≡ slice_index ys i
  same_below zero i h = absurd (omega arith)
  same_below (suc n) i h = same_at n i (same_below n) h (slice_get E i) refl

  pub one_ranking : xs ≡ ys
  one_ranking = equal_lists xs ys (are.count ∙ sym too.count) (λ i. same_below (suc (slice_index xs i)) i (omega arith))

-- ---- certificates
abbrev node_by : SearchNode → Mode → ℕ → CertificateNode Fact
node_by n x r = record { left = n.left; right = n.right; mode = x; rank = r; fact = n.fact }

abbrev ModeIs : MachinePair → CertificateNode Fact → Type 0
ModeIs m c = mode_at m (node_without_mode c) ≡ Found c.mode

same_node : (m : MachinePair) (c d : CertificateNode Fact) → node_without_mode c ≡ node_without_mode d → ModeIs m c → ModeIs m d → c.rank ≡ d.rank → c ≡ d
same_node m c d e p q r =
    let f : Found c.mode ≡ Found d.mode = sym p ∙ ap (mode_at m) e ∙ q in
    let x : c.mode ≡ d.mode = cc f in
    ap (λ n. node_by n c.mode c.rank) e ∙ ap₂ (λ z k. node_by (node_without_mode d) z k) x r

same_nodes : (m : MachinePair) (cs ds : List (CertificateNode Fact)) → map node_without_mode cs ≡ map node_without_mode ds → AllByRecursion (ModeIs m) cs
    → AllByRecursion (ModeIs m) ds → map (λ c. c.rank) cs ≡ map (λ c. c.rank) ds → cs ≡ ds
same_nodes m [] [] e p q r = refl
same_nodes m [] (d ∷ ds) e p q r = absurd (cc r)
same_nodes m (c ∷ cs) [] e p q r = absurd (cc r)
same_nodes m (c ∷ cs) (d ∷ ds) e p q r =
    let here : node_without_mode c ≡ node_without_mode d = cc e in
    let rest : map node_without_mode cs ≡ map node_without_mode ds = cc e in
    let rank : c.rank ≡ d.rank = cc r in
    let ranks : map (λ c. c.rank) cs ≡ map (λ c. c.rank) ds = cc r in
    ap₂ (λ z zs. z ∷ zs) (same_node m c d here p.0 q.0 rank) (same_nodes m cs ds rest p.1 q.1 ranks)

pub one_certificate : (m : MachinePair) (T : Table) (xs ys : List ℕ) (cs ds : List (CertificateNode Fact)) → AreRanks (lone_moves m T) xs
    → AreRanks (lone_moves m T) ys → Certifies m T xs cs → Certifies m T ys ds → cs ≡ ds
one_certificate m T xs ys cs ds a b p q =
    same_nodes m cs ds (p.nodes ∙ sym q.nodes) p.modes q.modes (p.ranks_are ∙ one_ranking (lone_moves m T) xs ys a b ∙ sym q.ranks_are)
