-- The rows that are found for states.
use Rattle.std.proofs.Common.{◌≡◌, inl, inr, ℕ, zero, suc, ◌+◌, ◌<◌, refl, sym, ap, subst, arith, Bool, true, false, List, [], ◌∷◌, ◌++◌, length, Option, Some}
use Rattle.std.proofs.Common.{is_some}
use Rattle.std.specs.Prelude.{◌==◌, ◌||◌, not, cond}
use Rattle.std.specs.Option.{option_or}
use Rattle.std.specs.List.{list_any}
use Rattle.fs_model.proofs.Booleans.{and_first}
use Rattle.fs_model.specs.Expressions.{Assignment}
use Rattle.fs_model.specs.Source.{Source}
use Rattle.fs_model.specs.Machines.{Fsmd}
use Rattle.fs_model.specs.SoundMachines.{IsSound}
use Rattle.hls_block_filling.specs.BasicBlocks.{all_states, is_in_block, follows, next_state, block_from, basic_block_at, exit_of, is_inner}
use Rattle.hls_block_filling.specs.BasicBlocks.{is_first_of_block, firsts}
use Rattle.hls_block_filling.specs.RowMachines.{MoveOver, after_row, moves, all_moves}
use Rattle.hls_block_filling.proofs.Among.{Among, passes_test, was_among, range_within, joined_from}
use Rattle.hls_block_filling.proofs.Trails.{next_in, follows_on, Station, leaves_block}
use Rattle.hls_block_filling.specs.ItemUnits.{Units}
use Rattle.hls_block_filling.specs.SourceRows.{named_rows, named_moves, RowEffect, first_row_effect}
use Rattle.hls_block_filling.specs.Sources.{states_by, source_by_rows, scheduled_source}
use Rattle.hls_block_filling.proofs.MappedLists.{flat_same}

-- ---- what is found
or_step : {A : Type 0} (d : A) (o a b : Option A) (t : Bool) → o ≡ option_or a b → cond t (Some d) o ≡ option_or (cond t (Some d) a) b
or_step d o a b true e = refl
or_step d o a b false e = e

-- of moves one after another, the first that is found
pub found_joined : (xs ys : List (MoveOver (List ℕ))) (q : ℕ) → first_row_effect (xs ++ ys) q ≡ option_or (first_row_effect xs q) (first_row_effect ys q)
found_joined [] ys q = refl
found_joined (x ∷ xs) ys q = or_step (x.assignments, x.target) (first_row_effect (xs ++ ys) q) (first_row_effect xs q) (first_row_effect ys q) (x.state == q)
    (found_joined xs ys q)

any_step : {A : Type 0} (d : A) (o : Option A) (b t : Bool) → is_some o ≡ b → is_some (cond t (Some d) o) ≡ (t || b)
any_step d o b true e = refl
any_step d o b false e = e

pub any_found : (xs : List (MoveOver (List ℕ))) (q : ℕ) → is_some (first_row_effect xs q) ≡ list_any (λ x. x.state == q) xs
any_found [] q = refl
any_found (x ∷ xs) q = any_step (x.assignments, x.target) (first_row_effect xs q) (list_any (λ y. y.state == q) xs) (x.state == q) (any_found xs q)

-- it is what a move of the state does
pub record IsFoundIn (xs : List (MoveOver (List ℕ))) (d : RowEffect) : Type 0 where
  pub move : MoveOver (List ℕ)
  pub among : Among move xs
  pub does : (move.assignments, move.target) ≡ d

in_step : (x : MoveOver (List ℕ)) (xs : List (MoveOver (List ℕ))) (o : Option RowEffect) (d : RowEffect) (t : Bool)
    → cond t (Some (x.assignments, x.target)) o ≡ Some d
    → (o ≡ Some d → IsFoundIn xs d) → IsFoundIn (x ∷ xs) d
in_step x xs o d true e next = record { move = x; among = inl refl; does = cc e }
in_step x xs o d false e next = let w = next e in record { move = w.move; among = inr w.among; does = w.does }

pub found_in : (xs : List (MoveOver (List ℕ))) (q : ℕ) (d : RowEffect) → first_row_effect xs q ≡ Some d → IsFoundIn xs d
found_in [] q d e = absurd (cc e)
found_in (x ∷ xs) q d e = in_step x xs (first_row_effect xs q) d (x.state == q) e (found_in xs q d)

-- rows that are found for each state of a machine
pub text_by_rows : (units : Units) (p : Source) (m : Fsmd) (rows : ℕ → Option RowEffect)
    → ((q : ℕ) → q < length m.states → rows q ≡ first_row_effect (named_moves units p m) q) → source_by_rows p m rows ≡ scheduled_source units p m
text_by_rows units p m rows h =
    ap (λ ss. record { declarations = p.declarations; reset_line = p.reset_line; reset = p.reset; states = ss })
    (flat_same (states_by p m rows) (states_by p m (first_row_effect (named_moves units p m))) (all_states m)
    (λ q w. let i : q < 0 + length m.states = range_within 0 (length m.states) q w in ap (λ o. states_by p m (λ k. o) q) (h q (omega (arith, i)))))

-- ---- where rows lead
module _ {X : Type 0} where
  after : (exit q : ℕ) (qs : List ℕ) (rows : List (List (Assignment X))) → Among (after_row exit qs rows) (exit ∷ q ∷ qs)
  after exit q qs [] = inl refl
  after exit q [] (a ∷ rows) = inl refl
  after exit q (r ∷ qs) (a ∷ rows) = inr (inr (inl refl))

  target_among : (exit : ℕ) (qs : List ℕ) (rows : List (List (Assignment X))) (x : MoveOver X) → Among x (moves exit qs rows) → Among x.target (exit ∷ qs)
  target_among exit [] rows x h = absurd h
  target_among exit (q ∷ qs) [] x h = absurd h
  target_among exit (q ∷ qs) (a ∷ rows) x (inl e) = subst (λ (z : MoveOver X). Among z.target (exit ∷ q ∷ qs)) (sym e) (after exit q qs rows)
  target_among exit (q ∷ qs) (a ∷ rows) x (inr h) = elim (target_among exit qs rows x h) as (λ _. Among x.target (exit ∷ q ∷ qs))
      [ inl e ↦ inl e | inr w ↦ inr (inr w) ]

module _ (m : Fsmd) (sound : IsSound m) where
  -- a state of a block of the machine
  pub record IsInBlock (q : ℕ) : Type 0 where
    pub within : q < length m.states
    pub in_block : is_in_block m q ≡ true

  block_step : (n q r : ℕ) (t : Bool) → follows m q (next_state m q) ≡ t → Among r (cond t (block_from m n (next_state m q)) [])
      → (follows m q (next_state m q) ≡ true → Among r (block_from m n (next_state m q)) → IsInBlock r) → IsInBlock r
  block_step n q r true e w next_one = next_one e w
  block_step n q r false e w next_one = absurd w

  block_states : (n q r : ℕ) → IsInBlock q → Among r (block_from m n q) → IsInBlock r
  block_states zero q r s (inl e) = subst (λ z. IsInBlock z) (sym e) s
  block_states zero q r s (inr w) = absurd w
  block_states (suc n) q r s (inl e) = subst (λ z. IsInBlock z) (sym e) s
  block_states (suc n) q r s (inr w) = block_step n q r (follows m q (next_state m q)) refl w
      (λ f v. block_states n (next_state m q) r (record { within = next_in m sound q s.within; in_block = follows_on m q (next_state m q) f }) v)

  pub first_is : (q : ℕ) → Among q (firsts m) → IsInBlock q
  first_is q w =
      let i : q < 0 + length m.states = range_within 0 (length m.states) q (was_among (is_first_of_block m) q (all_states m) w) in
      record { within = omega (arith, i); in_block = and_first (is_in_block m q) (not (is_inner m q)) (passes_test (is_first_of_block m) q (all_states m) w) }

  -- each state of a block
  pub block_is : (q r : ℕ) → Among q (firsts m) → Among r (basic_block_at m q) → IsInBlock r
  block_is q r w v = block_states (length m.states) q r (first_is q w) v

  exit_in : (q : ℕ) → Among q (firsts m) → exit_of m q < length m.states
  exit_in q w =
      let s = first_is q w in
      let e : Station m sound (exit_of m q) = leaves_block m sound (length m.states) q s.within s.in_block (sound.cut q s.within) in
      e.0

  pub leads_in : {X : Type 0} (rows : ℕ → List (List (Assignment X))) (x : MoveOver X) → Among x (all_moves m rows) → x.target < length m.states
  leads_in rows x h =
      let w = joined_from (λ q. moves (exit_of m q) (basic_block_at m q) (rows q)) x (firsts m) h in
      elim (target_among (exit_of m w.0) (basic_block_at m w.0) (rows w.0) x w.2) as (λ _. x.target < length m.states) [
        | inl e ↦ subst (λ z. z < length m.states) (sym e) (exit_in w.0 w.1)
        | inr v ↦ (block_is w.0 x.target w.1 v).within
      ]

  pub found_leads_in : (units : Units) (p : Source) (q : ℕ) (d : RowEffect) → first_row_effect (named_moves units p m) q ≡ Some d → d.1 < length m.states
  found_leads_in units p q d e =
      let w = found_in (named_moves units p m) q d e in
      subst (λ (z : RowEffect). z.1 < length m.states) w.does (leads_in (named_rows units p m) w.move w.among)
