-- Lists that loops fill, item by item, and what is made of rows.
use Rattle.std.proofs.Common.{◌≡◌, ℕ, zero, suc, ◌+◌, ◌<◌, ◌≤◌, List, [], ◌∷◌, ◌++◌, length, get_or, take, map, ap, ap₂, sym, refl, ◌∙◌, append_assoc}
use Rattle.std.proofs.Common.{Option, None, Some, Result, Ok, Err, true, false, cond}
use Rattle.std.specs.Result.{IfOk, OnOk}
use Rattle.std.specs.List.{slice_index_or, flat_map}
use Rattle.std.proofs.lemmas.Grind.{flat_map-append}
use Rattle.std.proofs.lemmas.List.{map_more, get_or-map, take_all, append-nil}
use Rattle.fs_model.proofs.Adding.{map_push_made}
use Rattle.fs_model.specs.declared.name.NoMemory.{NoMemory}
use Rattle.fs_model.specs.Adding.{AddsIfMade}
use Rattle.fs_model.specs.declared.parts.RawState.{RawState}
use Rattle.fs_model.specs.Machines.{Fsmd}
use Rattle.fs_model.specs.Source.{Source, SourceState, SourceTransition}
use Rattle.fs_model.specs.Expressions.{Assignment}
use Rattle.fs_model.specs.View.{source_state_of}
use Rattle.hls_block_filling.specs.BasicBlocks.{is_in_block}
use Rattle.hls_block_filling.specs.SourceRows.{RowEffect, source_state}
use Rattle.hls_block_filling.specs.Sources.{state_with_row, state_by, states_by}
use Rattle.hls_sched.specs.RowMoves.{transition_with_row}

-- one item more of a list, behind others
pub map_behind_start_grows : {A C : Type 0} (g : A → C) (start : List C) (xs : List A) (i : ℕ) (x : A) (old new : List C) → i < length xs → x ≡ get_or xs i x
    → new ≡ old ++ g x ∷ [] → old ≡ start ++ map g (take i xs) → new ≡ start ++ map g (take (i + 1) xs)
map_behind_start_grows g start xs i x old new h e n o = n ∙ ap (λ l. l ++ g x ∷ []) o ∙ append_assoc start (map g (take i xs)) (g x ∷ [])
    ∙ ap (λ l. start ++ l) (sym (map_more g xs i x h ∙ ap (λ y. map g (take i xs) ++ g y ∷ []) (sym e)))

-- what holds where a value is made, where it was made
pub was_made : {T P : Type 0} (made : Result T NoMemory) (old new : List T) → AddsIfMade made old new → OnOk made P → P
was_made (Ok x) old new p h = h
was_made (Err e) old new p h = absurd p

-- one item more of what is gathered of a list, and all of it
pub flat_more : {X B A : Type 0} (g : B → List A) (v : X → B) (xs : List X) (i : ℕ) (x : X) (old new : List A) → i < length xs → x ≡ get_or xs i x
    → new ≡ old ++ g (v x) → old ≡ flat_map g (map v (take i xs)) → new ≡ flat_map g (map v (take (i + 1) xs))
flat_more g v xs i x old new h e n o =
    let all : flat_map g (map v (take (i + 1) xs)) ≡ flat_map g (map v (take i xs)) ++ g (v x) =
    ap (flat_map g) (map_more v xs i x h ∙ ap (λ y. map v (take i xs) ++ v y ∷ []) (sym e)) ∙ flat_map-append g (map v (take i xs)) (v x ∷ [])
    ∙ ap (λ l. flat_map g (map v (take i xs)) ++ l) (append-nil (g (v x))) in
    n ∙ ap (λ l. l ++ g (v x)) o ∙ sym all

pub flat_end : {X B A : Type 0} (g : B → List A) (v : X → B) (xs : List X) (ys : List B) (i : ℕ) (out : List A) → length xs ≤ i → map v xs ≡ ys
    → out ≡ flat_map g (map v (take i xs)) → out ≡ flat_map g ys
flat_end g v xs ys i out h e o = o ∙ ap (λ zs. flat_map g (map v zs)) (take_all i xs h) ∙ ap (flat_map g) e

-- one more of a value that stands everywhere
pub same_pushed : {A : Type 0} (d : A) (xs : List A) → ((r : ℕ) → get_or xs r d ≡ d) → (r : ℕ) → get_or (xs ++ d ∷ []) r d ≡ d
same_pushed d [] h zero = refl
same_pushed d [] h (suc r) = refl
same_pushed d (x ∷ xs) h zero = h zero
same_pushed d (x ∷ xs) h (suc r) = same_pushed d xs (λ k. h (suc k)) r

-- ---- states
abbrev no_state : SourceState
no_state = record { line = 0; name = []; transitions = [] }

pub state_is : (ss : List RawState) (q : ℕ) (s : RawState) → q < length ss → s ≡ get_or ss q s
    → source_state_of s ≡ slice_index_or (map source_state_of ss) q no_state
state_is ss q s h e = ap source_state_of e ∙ sym (get_or-map source_state_of ss q s no_state h)

abbrev row_transition : ℕ → List ℕ → List (Assignment (List ℕ)) → SourceTransition
row_transition n target xs = record { line = n; content = record { guard = None; target = target; assignments = xs } }

abbrev with_lines : ℕ → List ℕ → List SourceTransition → SourceState
with_lines n name ls = record { line = n; name = name; transitions = ls }

pub transition_is : (p : Source) (n : ℕ) (d : RowEffect) (target : List ℕ) (xs : List (Assignment (List ℕ))) → target ≡ (source_state p d.1).name → xs ≡ d.0
    → row_transition n target xs ≡ transition_with_row p n d
transition_is p n d target xs e f = ap₂ (λ (t : List ℕ) (ys : List (Assignment (List ℕ))). row_transition n t ys) e f

pub row_is : (p : Source) (s : SourceState) (d : RowEffect) (name : List ℕ) (ls : List SourceTransition) → ls ≡ transition_with_row p s.line d ∷ []
    → name ≡ s.name → with_lines s.line name ls ≡ state_with_row p s d
row_is p s d name ls l e = ap₂ (λ (n : List ℕ) (ts : List SourceTransition). with_lines s.line n ts) e l

-- a state as it will be is added
module _ (p : Source) (m : Fsmd) (rows : ℕ → Option RowEffect) (q : ℕ) (s : SourceState) (o : Option RowEffect) (here : s ≡ source_state p q)
    (found : o ≡ rows q) where
  pub row_added : (d : RowEffect) (made : Result RawState NoMemory) (old new : List RawState) → o ≡ Some d
      → IfOk made (λ r. source_state_of r ≡ state_with_row p s d) → AddsIfMade made old new
      → map source_state_of new ≡ map source_state_of old ++ states_by p m rows q
  row_added d made old new e h a =
      let is : states_by p m rows q ≡ state_with_row p s d ∷ [] = ap (state_by p m q) (sym found ∙ e)
      ∙ ap (λ (z : SourceState). state_with_row p z d ∷ []) (sym here) in
      map_push_made source_state_of made old new (state_with_row p s d) a h ∙ ap (λ l. map source_state_of old ++ l) (sym is)

  pub state_added : (made : Result RawState NoMemory) (old new : List RawState) → o ≡ None → is_in_block m q ≡ false
      → IfOk made (λ r. source_state_of r ≡ s) → AddsIfMade made old new
      → map source_state_of new ≡ map source_state_of old ++ states_by p m rows q
  state_added made old new e f h a =
      let is : states_by p m rows q ≡ s ∷ [] = ap (state_by p m q) (sym found ∙ e) ∙ ap (λ t. cond t [] (source_state p q ∷ [])) f
      ∙ ap (λ (z : SourceState). z ∷ []) (sym here) in
      map_push_made source_state_of made old new s a h ∙ ap (λ l. map source_state_of old ++ l) (sym is)

  pub none_added : (old : List SourceState) → o ≡ None → is_in_block m q ≡ true → old ≡ old ++ states_by p m rows q
  none_added old e f =
      let is : states_by p m rows q ≡ [] = ap (state_by p m q) (sym found ∙ e) ∙ ap (λ t. cond t [] (source_state p q ∷ [])) f in
      sym (ap (λ (l : List SourceState). old ++ l) is ∙ append-nil old)
