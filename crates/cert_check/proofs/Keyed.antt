-- Nodes listed by the keys of their points.
use Rattle.std.proofs.Common.{◌≡◌, ℕ, ◌==◌, Bool, true, false, ◌&&◌, cond, Bor, Option, Some, None, List, [], ◌∷◌, ◌++◌, refl, ap, sym, ◌∙◌}
use Rattle.std.proofs.lemmas.Bool.{eqb-true}
use Rattle.std.proofs.lemmas.List.{append_assoc, append-nil}
use Rattle.std.specs.Map.{lookup}
use Rattle.std.specs.Option.{option_map_or, option_copied}
use Rattle.fs_model.proofs.Booleans.{and_first, and_second}
use Rattle.fs_cut.specs.Paths.{Point}
use Rattle.fs_cut.specs.Covers.{same_point}
use Rattle.cert_bisimulation.specs.Tables.{Node}
use Rattle.sym_facts.specs.Facts.{Fact}
use Rattle.cert_model.specs.Obligations.{nodes_at}
use Rattle.cert_model.specs.PointKeys.{key_of, same_key}
use Rattle.cert_model.proofs.SameKeys.{numbers_are}

-- keys are the same as their points are
same_points : (P Q R S : Point) → same_key (key_of P Q) (key_of R S) ≡ (same_point P R && same_point Q S)
same_points P Q R S = λ k. numbers_are P R k && numbers_are Q S k

keys_are : (k q : ℕ × ℕ) → same_key k q ≡ true → k ≡ q
keys_are k q e =
    let first : k.0 ≡ q.0 = eqb-true k.0 q.0 (and_first (k.0 == q.0) (k.1 == q.1) e) in
    let second : k.1 ≡ q.1 = eqb-true k.1 q.1 (and_second (k.0 == q.0) (k.1 == q.1) e) in
    λ j. (first j, second j)

-- what is listed by a reference
pub by_reference : {V : Type 0} (seen : V → List (Node Fact)) (o : Option (Bor V))
    → option_map_or (λ v. seen v.now) o [] ≡ option_map_or seen (option_copied o) []
by_reference seen None = refl
by_reference seen (Some v) = refl

-- one node more, and those behind it
pub nodes_more : (n : Node Fact) (ns : List (Node Fact)) (P Q : Point) → nodes_at (n ∷ ns) P Q ≡ nodes_at (n ∷ []) P Q ++ nodes_at ns P Q
nodes_more n ns P Q = by_test (same_point n.left P && same_point n.right Q)
  where
    by_test : (t : Bool) → cond t (n ∷ nodes_at ns P Q) (nodes_at ns P Q) ≡ cond t (n ∷ []) [] ++ nodes_at ns P Q
    by_test true = refl
    by_test false = refl

module _ {V : Type 0} (seen : V → List (Node Fact)) (n : Node Fact) (old taken new : List ((ℕ × ℕ) × V)) (o : Option V) (v : V) where
  abbrev key : ℕ × ℕ
  key = key_of n.left n.right

  abbrev before : ℕ × ℕ → Option V
  before q = lookup (same_key q) old

  -- what entries list at two points
  abbrev listed : List ((ℕ × ℕ) × V) → Point → Point → List (Node Fact)
  listed es P Q = option_map_or seen (lookup (same_key (key_of P Q)) es) []

  -- what is listed after those of a node's key are taken out, and put in again with it behind them
  pub put_behind : o ≡ before key → ((q : ℕ × ℕ) → lookup (same_key q) taken ≡ cond (same_key key q) None (before q))
      → ((q : ℕ × ℕ) → lookup (same_key q) new ≡ cond (same_key key q) (Some v) (lookup (same_key q) taken))
      → seen v ≡ option_map_or seen o [] ++ n ∷ [] → (P Q : Point) → listed new P Q ≡ listed old P Q ++ nodes_at (n ∷ []) P Q
  put_behind first out in_again is P Q = by_test (same_key key (key_of P Q)) refl
    where
      now : (t : Bool) → same_key key (key_of P Q) ≡ t
          → listed new P Q ≡ option_map_or seen (cond t (Some v) (cond {A = Option V} t None (before (key_of P Q)))) []
      now t e =
          ap (λ z. option_map_or seen z []) (in_again (key_of P Q) ∙ ap (λ z. cond (same_key key (key_of P Q)) (Some v) z) (out (key_of P Q)))
          ∙ ap (λ b. option_map_or seen (cond b (Some v) (cond {A = Option V} b None (before (key_of P Q)))) []) e

      added : (t : Bool) → same_key key (key_of P Q) ≡ t → cond t (n ∷ []) [] ≡ nodes_at (n ∷ []) P Q
      added t e = ap (λ b. cond b (n ∷ []) []) (sym e ∙ same_points n.left n.right P Q)

      by_test : (t : Bool) → same_key key (key_of P Q) ≡ t → listed new P Q ≡ listed old P Q ++ nodes_at (n ∷ []) P Q
      by_test true e =
          now true e ∙ is ∙ ap (λ z. option_map_or seen z [] ++ n ∷ []) (first ∙ ap before (keys_are key (key_of P Q) e))
          ∙ ap (λ z. listed old P Q ++ z) (added true e)
      by_test false e = now false e ∙ sym (append-nil (listed old P Q)) ∙ ap (λ z. listed old P Q ++ z) (added false e)

-- where a node is put behind those that are listed, those that are left still come behind them
pub one_listed : (n : Node Fact) (old new left rest whole : List (Node Fact)) (P Q : Point) → left ≡ n ∷ rest → new ≡ old ++ nodes_at (n ∷ []) P Q
    → old ++ nodes_at left P Q ≡ whole → new ++ nodes_at rest P Q ≡ whole
one_listed n old new left rest whole P Q e f g =
    ap (λ z. z ++ nodes_at rest P Q) f ∙ append_assoc old (nodes_at (n ∷ []) P Q) (nodes_at rest P Q)
    ∙ ap (λ z. old ++ z) (sym (nodes_more n rest P Q) ∙ sym (ap (λ z. nodes_at z P Q) e)) ∙ g
