-- A part that stands behind others now, and what is read behind it.
use Rattle.std.proofs.Common.{◌≡◌, ℕ, List, [], ◌∷◌, ◌++◌, map, cond, Bool, Option, Bor, Result, Ok, Err, IfOk, sym, ap, ap₂, subst, ◌∙◌}
use Rattle.std.proofs.lemmas.List.{map-append}
use Rattle.fs_model.specs.Source.{Source}
use Rattle.fs_model.specs.Expressions.{Assignment, Guard}
use Rattle.fs_grammar.specs.declared.fault.TextFault.{TextFault}
use Rattle.fs_grammar.specs.declared.fault.ReadError.{ReadError}
use Rattle.fs_grammar.specs.declared.token.Token.{Token}
use Rattle.fs_grammar.specs.Tokens.{Fails, ParsesOn}
use Rattle.fs_grammar.specs.Grammar.{OpenState, OpenTransition, with_transitions, close_transition, reading, at_assignment, at_transition}
use Rattle.fs_text_parser.specs.ReadParts.{PushesRead}

-- the list that ends in the part
pushed : {X Y Z : Type 0} (r : Result (X × Y) ReadError) (y : Y) (old new : List X) {v : Result Z TextFault} (go : X × Y → Result Z TextFault)
    (on : List X → Y → Result Z TextFault) → PushesRead old new r (Ok y) → ParsesOn r v go → ((x : X × Y) → go x ≡ on (old ++ x.0 ∷ []) x.1) → v ≡ on new y
pushed (Ok x) y old new go on is g same = g ∙ same x ∙ ap₂ on (sym is.0) (sym is.1)
pushed (Err d) y old new go on is g same = absurd is

-- its refusal, or none
pub not_pushed : {X Y Z : Type 0} (r : Result (X × Y) ReadError) (e : ReadError) (old new : List X) (v : Result Z TextFault) (go : X × Y → Result Z TextFault)
    → PushesRead old new r (Err e) → ParsesOn r v go → Fails e v
not_pushed (Ok x) e old new v go is g = subst (λ k. Fails k v) (sym is) tt
not_pushed (Err d) e old new v go is g = subst (λ k. Fails k v) (sym is) g

pub if_pushed : {X Y : Type 0} (r : Result (X × Y) ReadError) (y : Y) (old new : List X) (P : Y → Type 0) → PushesRead old new r (Ok y)
    → IfOk r (λ x. P x.1) → P y
if_pushed (Ok x) y old new P is h = subst P (sym is.1) h
if_pushed (Err d) y old new P is h = absurd is

-- where what is read so far takes the part at its end
pub parses_on_with_pushed : {X Y Z B S : Type 0} (f : X → B) (with_more : S → List B → S) (on : S → Y → Result Z TextFault)
    → ((s : S) (xs ys : List B) → with_more (with_more s xs) ys ≡ with_more s (xs ++ ys))
    → (r : Result (X × Y) ReadError) (y : Y) (s : S) (old new : List X) (v : Result Z TextFault) → PushesRead old new r (Ok y)
    → ParsesOn r v (λ x. on (with_more (with_more s (map f old)) (f x.0 ∷ [])) x.1) → v ≡ on (with_more s (map f new)) y
parses_on_with_pushed f with_more on law r y s old new v is g =
    pushed r y old new _ (λ xs z. on (with_more s (map f xs)) z) is g
    (λ x. ap (λ t. on t x.1) (law s (map f old) (f x.0 ∷ []) ∙ ap (with_more s) (sym (map-append f old (x.0 ∷ [])))))

-- what is read behind an assignment, where one more follows and where none does
abbrev pub after_assignment : OpenTransition → Bool × Bor (List Token) → Result Source TextFault
after_assignment o y = reading y.1.now (cond y.0 (at_assignment o) (at_transition (close_transition o)))

-- what is read behind a transition
abbrev pub read_line : OpenState → ℕ → Option (Guard (List ℕ)) → List ℕ → List (Assignment (List ℕ)) → Bor (List Token) → Result Source TextFault
read_line d n guard target assignments rest =
    reading rest.now (at_transition (with_transitions d
    (record { line = n; content = record { guard = guard; target = target; assignments = assignments } } ∷ [])))
