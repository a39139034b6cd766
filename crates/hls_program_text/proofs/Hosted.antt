-- Sums, guards and declarations in programs read as they do by themselves.
use Rattle.std.proofs.Common.{◌≡◌, ℕ, List, [], ◌∷◌, Option, Some, None, Result, Ok, Err, refl, ◌∙◌}
use Rattle.std.specs.Prelude.{IfOk}
use Rattle.fs_phrase_text.proofs.Called.{guard_stops, sum_stops}
use Rattle.fs_model.specs.Expressions.{Expression, Guard}
use Rattle.fs_model.specs.Source.{Declaration}
use Rattle.fs_grammar.specs.declared.fault.TextFault.{TextFault}
use Rattle.fs_grammar.specs.declared.fault.ReadError.{ReadError}
use Rattle.fs_grammar.specs.declared.fault.ReadError.TheVariants.{Text, NoMemory}
use Rattle.fs_grammar.specs.declared.token.Token.{Token}
use Rattle.fs_grammar.specs.Tokens.{refusal, ParsesOn}
use Rattle.fs_grammar.specs.PartEnds.{EndsSum, EndsGuard}
use Rattle.fs_expression_text.specs.Inside.{Inside, Whole, whole_sum, whole_guard, whole_at, at_sum, at_guard, after_sum, after_guard, sum_alone, guard_alone}
use Rattle.fs_expression_text.specs.Inside.{parse_expression}
use Rattle.fs_expression_text.specs.Inside as inner
use Rattle.fs_expression_text.specs.Hosts as sums
use Rattle.fs_expression_text.proofs.Hosted.{carried}
use Rattle.fs_phrase_text.specs.Declaring.{Lead}
use Rattle.fs_phrase_text.specs.Declaring as declaring
use Rattle.hls_program_parts.specs.ProgramGrammar.{Hole, inside, after, at_declaration, in_declaration, with_declaration, step_inside, step_declaring}
use Rattle.hls_program_parts.specs.ProgramGrammar.{take_program_token, program_reading}
use Rattle.hls_program_parts.proofs.Exact.{stop_none}

inside_by : (t : Token) (ts : List Token) (h : Hole) (o : Option Inside) (w : Option Whole)
    → take_program_token t (step_inside o w h t.kind) (program_reading ts) None
    ≡ inner.take_expression_token t o (λ j. program_reading ts (inside h j)) w (λ v. program_reading (t ∷ ts) (after h v))
inside_by t ts h (Some j) w = refl
inside_by t ts h None (Some w) = refl
inside_by t ts h None None = stop_none t.kind (refusal (t ∷ []))

-- programs host sums and guards
pub hosts : (h : Hole) → sums.HostsExpressions program_reading (inside h) (after h)
hosts h = record { ends = λ i. refl; goes_on = λ t ts i. inside_by t ts h (inner.expression_step i t.kind) (whole_at i) }

declaring_by : (t : Token) (ts : List Token) (ds : List Declaration) (o : Option Lead)
    → take_program_token t (step_declaring o ds) (program_reading ts) None
    ≡ declaring.take_declaration_token t o (λ s. program_reading ts (in_declaration ds s)) (λ d. program_reading ts (at_declaration (with_declaration ds d)))
declaring_by t ts ds (Some (declaring.inside s)) = refl
declaring_by t ts ds (Some (declaring.whole d)) = refl
declaring_by t ts ds None = stop_none t.kind (refusal (t ∷ []))

-- programs host declarations
pub hosts_declarations : (ds : List Declaration) → declaring.HostsDeclarations program_reading (in_declaration ds) (λ d. at_declaration (with_declaration ds d))
hosts_declarations ds = record { ends = λ s. refl; goes_on = λ t ts s. declaring_by t ts ds (declaring.declaration_step s t.kind) }

-- ---- behind a sum or a guard that does not go on

sum_behind : (ts : List Token) (h : Hole) (s : Expression (List ℕ)) → EndsSum ts
    → program_reading ts (inside h (after_sum s sum_alone)) ≡ program_reading ts (after h (whole_sum s))
sum_behind [] h s e = refl
sum_behind (t ∷ ts) h s e = rw (sum_stops t.kind s e) refl

guard_behind : (ts : List Token) (h : Hole) (g : Guard (List ℕ)) → EndsGuard ts
    → program_reading ts (inside h (after_guard g guard_alone)) ≡ program_reading ts (after h (whole_guard g))
guard_behind [] h g e = refl
guard_behind (t ∷ ts) h g e = rw (guard_stops t.kind g e) refl

goes_as : {X Y : Type 0} (r : Result X ReadError) (y : Result Y TextFault) (f g : X → Result Y TextFault) → IfOk r (λ x. f x ≡ g x) → ParsesOn r y f
    → ParsesOn r y g
goes_as (Ok x) y f g h e = e ∙ h
goes_as (Err (Text t)) y f g h e = e
goes_as (Err NoMemory) y f g h e = tt

sums_behind : {X : Type 0} (h : Hole) (r : Result X ReadError) (rest : X → List Token) (expression : X → Expression (List ℕ)) → IfOk r (λ x. EndsSum (rest x))
    → IfOk r (λ x. program_reading (rest x) (inside h (after_sum (expression x) sum_alone)) ≡ program_reading (rest x) (after h (whole_sum (expression x))))
sums_behind h (Ok x) rest expression e = sum_behind (rest x) h (expression x) e
sums_behind h (Err _) rest expression e = tt

guards_behind : {X : Type 0} (h : Hole) (r : Result X ReadError) (rest : X → List Token) (guard : X → Guard (List ℕ)) → IfOk r (λ x. EndsGuard (rest x))
    → IfOk r (λ x. program_reading (rest x) (inside h (after_guard (guard x) guard_alone)) ≡ program_reading (rest x) (after h (whole_guard (guard x))))
guards_behind h (Ok x) rest guard e = guard_behind (rest x) h (guard x) e
guards_behind h (Err _) rest guard e = tt

-- what a call says of a sum by itself, it says of one in a program
pub sum_goes : {X : Type 0} (h : Hole) (r : Result X ReadError) (ts : List Token) (rest : X → List Token) (expression : X → Expression (List ℕ))
    → ParsesOn r (parse_expression ts (at_sum sum_alone)) (λ x. parse_expression (rest x) (after_sum (expression x) sum_alone)) → IfOk r (λ x. EndsSum (rest x))
    → ParsesOn r (program_reading ts (inside h (at_sum sum_alone))) (λ x. program_reading (rest x) (after h (whole_sum (expression x))))
sum_goes h r ts rest expression e f =
    goes_as r (program_reading ts (inside h (at_sum sum_alone))) (λ x. program_reading (rest x) (inside h (after_sum (expression x) sum_alone)))
    (λ x. program_reading (rest x) (after h (whole_sum (expression x)))) (sums_behind h r rest expression f)
    (carried program_reading (inside h) (after h) (hosts h) r ts (at_sum sum_alone) rest (λ x. after_sum (expression x) sum_alone) e)

-- and of a guard
pub guard_goes : {X : Type 0} (h : Hole) (r : Result X ReadError) (ts : List Token) (rest : X → List Token) (guard : X → Guard (List ℕ))
    → ParsesOn r (parse_expression ts (at_guard guard_alone)) (λ x. parse_expression (rest x) (after_guard (guard x) guard_alone))
    → IfOk r (λ x. EndsGuard (rest x))
    → ParsesOn r (program_reading ts (inside h (at_guard guard_alone))) (λ x. program_reading (rest x) (after h (whole_guard (guard x))))
guard_goes h r ts rest guard e f =
    goes_as r (program_reading ts (inside h (at_guard guard_alone))) (λ x. program_reading (rest x) (inside h (after_guard (guard x) guard_alone)))
    (λ x. program_reading (rest x) (after h (whole_guard (guard x)))) (guards_behind h r rest guard f)
    (carried program_reading (inside h) (after h) (hosts h) r ts (at_guard guard_alone) rest (λ x. after_guard (guard x) guard_alone) e)
