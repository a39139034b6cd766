-- Operations that follow one another: what a step of a loop leaves for those behind it, and the event that is that of the whole.
use Rattle.std.proofs.Common.{◌≡◌, ℕ, ◌+◌, ◌<◌, List, map, drop, length, get_or, Result, Ok, Err, refl, ap, sym, subst, ◌∙◌}
use Rattle.std.specs.Result.{IsErrAnd}
use Rattle.fs_model.proofs.Lists.{map_drop_next, same_there}
use Rattle.nf_trees.specs.NormalTerms.{Polynomial, ArrayTerm, monomial_of, polynomial_of, writes_of}
use Rattle.nf_terms.specs.Computed.{Computed, Done, Wide, Large, Answers, after}
use Rattle.nf_trees.specs.NormalTerms.{Atom}
use Rattle.nf_terms.specs.declared.form.Nf.{Nf}
use Rattle.nf_terms.specs.declared.stop.NfStop.{NfStop}
use Rattle.nf_terms.specs.declared.stop.NfStop.TheVariants as stop
use Rattle.fs_model.specs.declared.sides.Pos.{Pos}
use Rattle.nf_bank.specs.declared.node.AtomId.{AtomId}
use Rattle.nf_bank.specs.declared.node.Term.{Term}
use Rattle.nf_bank.specs.declared.node.Write.{Write}
use Rattle.nf_bank.specs.AtomNumbers.{atom_of_number, scaled_monomial_over, write_over, monomial_over, sum_over}
use Rattle.nf_sums.specs.Operations.{normal_sum, normal_product, number}
use Rattle.nf_arrays.specs.Writes.{write_array}
use Rattle.nf_substitution.specs.Substitution.{atom_substituted, atoms_substituted, terms_substituted, writes_substituted, polynomial_substituted}

-- the event of an operation is that of all that follow
pub stops : {S T : Type 0} (event : NfStop) (c : Computed S) (next : S → Computed T) → Answers {T = S} (Err event) c
    → Answers {T = T} (Err event) (after c next)
stops (stop.Wide l r) c next e = ap (λ d. after d next) e
stops (stop.Large u d) c next e = ap (λ d. after d next) e
stops stop.NoMemory c next e = tt

pub stopped : {T : Type 0} (r : Result T NfStop) (event : NfStop) (c : Computed T) → r ≡ Err event → Answers {T = T} (Err event) c → Answers {T = T} r c
stopped {T = T} r event c e h = subst (λ s. Answers {T = T} s c) (sym e) h

-- what a refusal passes on
pub passed_on : {T : Type 0} (r : Result T NfStop) (event : NfStop) (c : Computed T) → IsErrAnd r (λ d. d ≡ event) → Answers {T = T} (Err event) c
    → Answers {T = T} r c
passed_on (Ok t) event c is a = absurd is
passed_on {T = T} (Err d) event c is a = subst (λ (x : NfStop). Answers {T = T} (Err x) c) (sym is) a

-- an operation on what another gave
pub goes : {S T : Type 0} (a : Computed S) (next : S → Computed T) (s : S) (r : Result T NfStop) → a ≡ Done s → Answers {T = T} r (next s)
    → Answers {T = T} r (after a next)
goes {T = T} a next s r e h = subst (λ c. Answers {T = T} r (after c next)) (sym e) h

-- two operations and one of their results are done before what follows
pub behind : {S T U V : Type 0} (a : Computed S) (b : Computed T) (f : S → T → Computed U) (next : U → Computed V)
    → after a (λ s. after b (λ t. after (f s t) next)) ≡ after (after a (λ s. after b (λ t. f s t))) next
behind (Done s) (Done t) f next = refl
behind (Done s) (Wide l r) f next = refl
behind (Done s) (Large u d) f next = refl
behind (Wide l r) b f next = refl
behind (Large u d) b f next = refl

-- an operation on what another gives, before what follows
pub after_after : {S T U : Type 0} (a : Computed S) (f : S → Computed T) (next : T → Computed U)
    → after (after a f) next ≡ after a (λ s. after (f s) next)
after_after (Done s) f next = refl
after_after (Wide l r) f next = refl
after_after (Large u d) f next = refl

pub item_done : {S T U : Type 0} (a : Computed S) (f : S → Computed T) (next : T → Computed U) (m : T) → after a f ≡ Done m
    → next m ≡ after a (λ s. after (f s) next)
item_done a f next m e = ap (λ c. after c next) (sym e) ∙ after_after a f next

pub item_stops : {S T U : Type 0} (event : NfStop) (a : Computed S) (f : S → Computed T) (next : T → Computed U)
    → Answers {T = T} (Err event) (after a f) → Answers {T = U} (Err event) (after a (λ s. after (f s) next))
item_stops {U = U} event a f next e = subst (Answers {T = U} (Err event)) (after_after a f next) (stops event (after a f) next e)

module _ (v : List (Pos × Nf)) (bank : List Atom) where
  pub factor_step : (ids : List AtomId) (i : ℕ) (default : AtomId) (so_far product : Polynomial) → i < length ids
      → after (atom_substituted v (atom_of_number bank (get_or ids i default))) (λ f. normal_product so_far f) ≡ Done product
      → atoms_substituted v (monomial_of (map (atom_of_number bank) (drop (i + 1) ids))) product
      ≡ atoms_substituted v (monomial_of (map (atom_of_number bank) (drop i ids))) so_far
  factor_step ids i default so_far product h p =
      let id = get_or ids i default in
      let rest = monomial_of (map (atom_of_number bank) (drop (i + 1) ids)) in
      item_done (atom_substituted v (atom_of_number bank id)) (λ f. normal_product so_far f) (λ q. atoms_substituted v rest q) product p
      ∙ sym (ap (λ xs. atoms_substituted v (monomial_of xs) so_far) (map_drop_next (atom_of_number bank) ids i id h (same_there ids i default id h)))

  pub term_step : (terms : List Term) (i : ℕ) (t : Term) (so_far sum : Polynomial) → i < length terms → t ≡ get_or terms i t
      → after (after (number t.coefficient) (atoms_substituted v (monomial_over bank t.atoms))) (λ x. normal_sum so_far x) ≡ Done sum
      → terms_substituted v (polynomial_of (map (scaled_monomial_over bank) (drop (i + 1) terms))) sum
      ≡ terms_substituted v (polynomial_of (map (scaled_monomial_over bank) (drop i terms))) so_far
  term_step terms i t so_far sum h e p =
      let rest = polynomial_of (map (scaled_monomial_over bank) (drop (i + 1) terms)) in
      item_done (after (number t.coefficient) (atoms_substituted v (monomial_over bank t.atoms))) (λ x. normal_sum so_far x)
      (λ s. terms_substituted v rest s) sum p
      ∙ sym (ap (λ xs. terms_substituted v (polynomial_of xs) so_far) (map_drop_next (scaled_monomial_over bank) terms i t h e))

  pub write_step : (writes : List Write) (i : ℕ) (w : Write) (so_far array : ArrayTerm) → i < length writes → w ≡ get_or writes i w
      → after (polynomial_substituted v (sum_over bank w.index)) (λ j. after (polynomial_substituted v (sum_over bank w.value)) (λ y. write_array so_far j y))
      ≡ Done array
      → writes_substituted v (writes_of (map (write_over bank) (drop (i + 1) writes))) array
      ≡ writes_substituted v (writes_of (map (write_over bank) (drop i writes))) so_far
  write_step writes i w so_far array h e a =
      let rest = writes_of (map (write_over bank) (drop (i + 1) writes)) in
      let next : ArrayTerm → Computed ArrayTerm = λ r. writes_substituted v rest r in
      sym (ap (λ xs. writes_substituted v (writes_of xs) so_far) (map_drop_next (write_over bank) writes i w h e)
      ∙ behind (polynomial_substituted v (sum_over bank w.index)) (polynomial_substituted v (sum_over bank w.value)) (λ j y. write_array so_far j y) next
      ∙ ap (λ c. after c next) a)

  pub factor_stops : (ids : List AtomId) (i : ℕ) (default : AtomId) (so_far : Polynomial) (event : NfStop) → i < length ids
      → Answers {T = Polynomial} (Err event) (after (atom_substituted v (atom_of_number bank (get_or ids i default))) (λ f. normal_product so_far f))
      → Answers {T = Polynomial} (Err event) (atoms_substituted v (monomial_of (map (atom_of_number bank) (drop i ids))) so_far)
  factor_stops ids i default so_far event h a =
      let id = get_or ids i default in
      let rest = monomial_of (map (atom_of_number bank) (drop (i + 1) ids)) in
      subst (λ xs. Answers {T = Polynomial} (Err event) (atoms_substituted v (monomial_of xs) so_far))
      (sym (map_drop_next (atom_of_number bank) ids i id h (same_there ids i default id h)))
      (item_stops event (atom_substituted v (atom_of_number bank id)) (λ f. normal_product so_far f) (λ q. atoms_substituted v rest q) a)

  pub term_stops : (terms : List Term) (i : ℕ) (t : Term) (so_far : Polynomial) (event : NfStop) → i < length terms → t ≡ get_or terms i t
      → Answers {T = Polynomial} (Err event)
      (after (after (number t.coefficient) (atoms_substituted v (monomial_over bank t.atoms))) (λ x. normal_sum so_far x))
      → Answers {T = Polynomial} (Err event) (terms_substituted v (polynomial_of (map (scaled_monomial_over bank) (drop i terms))) so_far)
  term_stops terms i t so_far event h e a =
      let rest = polynomial_of (map (scaled_monomial_over bank) (drop (i + 1) terms)) in
      subst (λ xs. Answers {T = Polynomial} (Err event) (terms_substituted v (polynomial_of xs) so_far))
      (sym (map_drop_next (scaled_monomial_over bank) terms i t h e))
      (item_stops event (after (number t.coefficient) (atoms_substituted v (monomial_over bank t.atoms))) (λ x. normal_sum so_far x)
      (λ s. terms_substituted v rest s) a)

  pub write_stops : (writes : List Write) (i : ℕ) (w : Write) (so_far : ArrayTerm) (event : NfStop) → i < length writes → w ≡ get_or writes i w
      → Answers {T = ArrayTerm} (Err event)
      (after (polynomial_substituted v (sum_over bank w.index)) (λ j. after (polynomial_substituted v (sum_over bank w.value)) (λ y. write_array so_far j y)))
      → Answers {T = ArrayTerm} (Err event) (writes_substituted v (writes_of (map (write_over bank) (drop i writes))) so_far)
  write_stops writes i w so_far event h e a =
      let rest = writes_of (map (write_over bank) (drop (i + 1) writes)) in
      let next : ArrayTerm → Computed ArrayTerm = λ r. writes_substituted v rest r in
      let index = polynomial_substituted v (sum_over bank w.index) in
      let value = polynomial_substituted v (sum_over bank w.value) in
      subst (Answers {T = ArrayTerm} (Err event))
      (sym (ap (λ xs. writes_substituted v (writes_of xs) so_far) (map_drop_next (write_over bank) writes i w h e)
      ∙ behind index value (λ j y. write_array so_far j y) next))
      (stops event (after index (λ j. after value (λ y. write_array so_far j y))) next a)
