-- The nodes of a file, one after another.
use Rattle.std.proofs.Common.{◌≡◌, ℕ, ◌+◌, true, false, ap, sym, subst, ◌∙◌, List, [], ◌∷◌, ◌++◌, Result, Ok, Err}
use Rattle.std.specs.Prelude.{map}
use Rattle.std.proofs.lemmas.List.{map_push}
use Rattle.fs_model.proofs.Booleans.{and_first, and_second, neither_first, neither_second}
use Rattle.cert_values.specs.View.{view, items_view}
use Rattle.cert_values.specs.declared.value.Value.{Value}
use Rattle.fs_cut.specs.Paths.{Point}
use Rattle.fs_cut.specs.View.{point_of}
use Rattle.fs_cut.specs.declared.cover.Point.{Point as CodePoint}
use Rattle.cert_bisimulation.specs.declared.mode.Mode.{Mode}
use Rattle.cert_bisimulation.specs.Tables.{Node}
use Rattle.sym_facts.specs.Facts.{Fact}
use Rattle.cert_model.specs.declared.cert.Node.{Node as CodeNode}
use Rattle.cert_model.specs.View.{node_of}
use Rattle.cert_values.specs.Shape.{is_node, are_nodes, has_many_conditions, some_has_many}
use Rattle.cert_json.specs.WrittenJson.{NodeText}
use Rattle.cert_facts.specs.declared.faults.CertError.{CertError}
use Rattle.cert_facts.specs.declared.faults.Stop.{Stop}
use Rattle.cert_facts.specs.JsonParts.{node_text_in, node_texts}
use Rattle.cert_facts.specs.PartAnswers.{Tells}
use Rattle.cert_facts.specs.PartAnswers.{then_part}
use Rattle.cert_text.specs.NodePointNames.{points_read}
use Rattle.cert_facts.proofs.Told.{stopped_first}
use Rattle.cert_facts.specs.FactReading.{node_fact}
use Rattle.cert_text.specs.CertificateReading.{mode_named, Context, node_read, node_added, nodes_read}

-- the first of the values that are left has the form of a node, and few conditions
module _ (left rest : List Value) (x : Value) (is : left ≡ x ∷ rest) where
  pub next_shaped : are_nodes (items_view left) ≡ true → is_node (view x) ≡ true
  next_shaped s = and_first (is_node (view x)) (are_nodes (items_view rest)) (sym (ap (λ vs. are_nodes (items_view vs)) is) ∙ s)

  pub others_shaped : are_nodes (items_view left) ≡ true → are_nodes (items_view rest) ≡ true
  others_shaped s = and_second (is_node (view x)) (are_nodes (items_view rest)) (sym (ap (λ vs. are_nodes (items_view vs)) is) ∙ s)

  pub next_few : some_has_many (items_view left) ≡ false → has_many_conditions (view x) ≡ false
  next_few s = neither_first (has_many_conditions (view x)) (some_has_many (items_view rest)) (sym (ap (λ vs. some_has_many (items_view vs)) is) ∙ s)

  pub others_few : some_has_many (items_view left) ≡ false → some_has_many (items_view rest) ≡ false
  others_few s = neither_second (has_many_conditions (view x)) (some_has_many (items_view rest)) (sym (ap (λ vs. some_has_many (items_view vs)) is) ∙ s)

-- ---- one node

module _ (c : Context) (i : ℕ) (earlier : List (Node Fact)) (n : NodeText) (left right : List ℕ) (l : left ≡ n.left) (r : right ≡ n.right) where
  same_points : points_read i c.terms.format c.states earlier left right ≡ points_read i c.terms.format c.states earlier n.left n.right
  same_points = λ k. points_read i c.terms.format c.states earlier (l k) (r k)

  pub points_stop : (e : Stop)
      → Tells {X = CodePoint × CodePoint} (λ P. (point_of P.0, point_of P.1)) (Err e) (points_read i c.terms.format c.states earlier left right)
      → Tells node_of (Err e) (node_read c i earlier n)
  unfolding node_read
  points_stop e h =
      stopped_first {V = CodePoint × CodePoint} (λ P. (point_of P.0, point_of P.1)) node_of e (points_read i c.terms.format c.states earlier n.left n.right) _
      (subst (λ y. Tells {X = CodePoint × CodePoint} (λ P. (point_of P.0, point_of P.1)) (Err e) y) same_points h)

  module _ (P Q : Point) (h : points_read i c.terms.format c.states earlier left right ≡ Ok (P, Q)) where
    with_fact : Result Fact CertError → Result (Node Fact) CertError
    with_fact y = then_part y (λ f. Ok (record { left = P; right = Q; mode = mode_named n.mode; rank = n.rank; fact = f }))

    past_points : node_read c i earlier n ≡ with_fact (node_fact c.terms i n)
    unfolding node_read with_fact
    past_points =
        ap
        (λ y. then_part y
        (λ (R : Point × Point). then_part (node_fact c.terms i n)
        (λ f. Ok (record { left = R.0; right = R.1; mode = mode_named n.mode; rank = n.rank; fact = f })))) (sym same_points ∙ h)

    pub fact_stop : (e : Stop) → Tells {X = Fact} (λ f. f) (Err e) (node_fact c.terms i n) → Tells node_of (Err e) (node_read c i earlier n)
    unfolding with_fact
    fact_stop e g = subst (λ y. Tells node_of (Err e) y) (sym past_points) (stopped_first {V = Fact} (λ f. f) node_of e (node_fact c.terms i n) _ g)

    pub node_told : (m : Mode) (k : ℕ) (f : Fact) → m ≡ mode_named n.mode → k ≡ n.rank → node_fact c.terms i n ≡ Ok f
        → node_read c i earlier n ≡ Ok (record { left = P; right = Q; mode = m; rank = k; fact = f })
    unfolding with_fact
    node_told m k f em ek g = past_points ∙ ap with_fact g ∙ (λ j. Ok (record { left = P; right = Q; mode = sym em j; rank = sym ek j; fact = f }))

-- ---- a node more

pub added_stop : (c : Context) (i : ℕ) (xs olds : List CodeNode) (n : NodeText) (e : Stop) → xs ≡ olds
    → Tells node_of (Err e) (node_read c i (map node_of xs) n) → Tells {X = List (Node Fact)} (λ ns. ns) (Err e) (node_added c i (map node_of olds) n)
added_stop c i xs olds n e same h = subst (λ ys. Tells {X = List (Node Fact)} (λ ns. ns) (Err e) (node_added c i (map node_of ys) n)) same
    (stopped_first {W = List (Node Fact)} node_of (λ ns. ns) e (node_read c i (map node_of xs) n) (λ m. Ok (map node_of xs ++ m ∷ [])) h)

pub added : (c : Context) (i : ℕ) (xs olds ys : List CodeNode) (x : CodeNode) (n : NodeText) → xs ≡ olds → ys ≡ olds ++ x ∷ []
    → node_read c i (map node_of xs) n ≡ Ok (node_of x) → node_added c i (map node_of olds) n ≡ Ok (map node_of ys)
added c i xs olds ys x n same e h =
    subst (λ zs. node_added c i (map node_of zs) n ≡ Ok (map node_of zs ++ node_of x ∷ [])) same (ap (λ y. then_part y (λ m. Ok (map node_of xs ++ m ∷ []))) h)
    ∙ ap Ok (sym (ap (map node_of) e ∙ map_push node_of olds x))

-- ---- all nodes

module _ (c : Context) (whole left rest : List Value) (k : ℕ) (earlier : List (Node Fact)) (x : Value) (is : left ≡ x ∷ rest)
    (kept : nodes_read c k earlier (node_texts (items_view left)) ≡ nodes_read c 0 [] (node_texts (items_view whole))) where
  here : nodes_read c 0 [] (node_texts (items_view whole)) ≡ then_part (node_added c k earlier (node_text_in (view x)))
      (λ ms. nodes_read c (k + 1) ms (node_texts (items_view rest)))
  here = sym kept ∙ ap (λ vs. nodes_read c k earlier (node_texts (items_view vs))) is

  pub nodes_stop : (e : Stop) → Tells {X = List (Node Fact)} (λ ns. ns) (Err e) (node_added c k earlier (node_text_in (view x)))
      → Tells {X = List (Node Fact)} (λ ns. ns) (Err e) (nodes_read c 0 [] (node_texts (items_view whole)))
  nodes_stop e h = subst (λ y. Tells {X = List (Node Fact)} (λ ns. ns) (Err e) y) (sym here)
      (stopped_first {V = List (Node Fact)} {W = List (Node Fact)} (λ ns. ns) (λ ns. ns) e (node_added c k earlier (node_text_in (view x))) _ h)

  pub nodes_more : (next : List (Node Fact)) → node_added c k earlier (node_text_in (view x)) ≡ Ok next
      → nodes_read c (k + 1) next (node_texts (items_view rest)) ≡ nodes_read c 0 [] (node_texts (items_view whole))
  nodes_more next h = sym (here ∙ ap (λ y. then_part y (λ ms. nodes_read c (k + 1) ms (node_texts (items_view rest)))) h)
