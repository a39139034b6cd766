-- A word that the reading finds past the limit is an operator too many by the grammar.
use Rattle.std.proofs.Common.{◌≡◌, ℕ, ◌≤◌, List, [], ◌∷◌, ◌++◌, Option, Some, None, refl, sym, ap, subst, ◌∙◌, append_assoc, arith}
use Rattle.std.specs.Prelude.{Bool, true, false, nat_le, pos, IfSome, IsTrue}
use Rattle.std.proofs.lemmas.Bool.{leb-true, and_parts}
use Rattle.fs_model.proofs.Booleans.{true_and_false}
use Rattle.fs_model.specs.Expressions as expressions
use Rattle.fs_model.specs.Source.{Declaration}
use Rattle.fs_grammar.specs.declared.format.Format.TheVariants.{One}
use Rattle.fs_grammar.specs.declared.token.TokenKind.{TokenKind}
use Rattle.fs_grammar.specs.declared.token.TokenKind.TheVariants.{Prog, If as IfWord, Else, While as WhileWord, Declare, Array, Name, Number, Comma, Semicolon}
use Rattle.fs_grammar.specs.declared.token.TokenKind.TheVariants.{Equals, OpenBracket, CloseBracket, OpenBrace, CloseBrace}
use Rattle.fs_grammar.specs.Grammar.{element, destination_assignment}
use Rattle.fs_grammar.specs.Spelling.{Word, at, number, factor, product, IsGuard, IsSum, element_at, IsAssignment, assign}
use Rattle.fs_grammar.specs.Beginnings as rules
use Rattle.fs_grammar.proofs.Reached.{Cut}
use Rattle.fs_grammar.proofs.Alternatives.{completed}
use Rattle.fs_expression_text.specs.Inside.{Inside, Whole, whole_guard, whole_at}
use Rattle.fs_expression_text.specs.Inside as inner
use Rattle.fs_phrase_text.specs.Expressions.{rule_of, SpellsExpression}
use Rattle.fs_phrase_text.proofs.SoundExpressions.{sound as sound_expression}
use Rattle.fs_phrase_text.proofs.Beginning.{leads as expression_begins}
use Rattle.fs_phrase_text.specs.Declaring.{Declaring}
use Rattle.fs_phrase_text.specs.Declaring as declaring
use Rattle.hls_program_parts.specs.Programs.{End, If, join_blocks}
use Rattle.hls_program_parts.specs.Marks.{is_counted, is_past_program_limit}
use Rattle.hls_program_parts.specs.ProgramGrammar.{Named, Open, depth_of, Hole, for_if, for_while, for_index, for_value, ProgramParseState, at_prog}
use Rattle.hls_program_parts.specs.ProgramGrammar.{after_prog, at_declaration, in_declaration, at_block, at_statement, after_name, at_equals, inside, after}
use Rattle.hls_program_parts.specs.ProgramGrammar.{after_yes, at_no, at_end, step_statement, step_after, step_inside, step_declaring, program_step}
use Rattle.hls_program_parts.specs.ProgramBeginnings.{IsInProgramExpression, in_choice, in_repetition, in_assignment}
use Rattle.hls_program_parts.specs.ProgramLimits.{IsOneTooManyInProgram}
use Rattle.hls_program_parts.proofs.Walks.{walk}
use Rattle.hls_program_parts.proofs.Reached.{IsHead, IsWithin, IsChoice, Follows, kind_of_hole, BeforeHole, LeadsInside, Reached}
use Rattle.hls_program_parts.proofs.Sound.{behind_word, leads_on, reached}
use Rattle.hls_program_parts.proofs.Tallies.{unit_behind, count_behind, unit_append, guard_unit, operator_counted, declarations_unit, else_unit, InPart}
use Rattle.hls_program_parts.proofs.Tallies.{part_counts}
use Rattle.hls_program_parts.proofs.Depths.{in_block}

-- Words that end in a part of one guard or one assignment, which goes on with this word.
record GoesOnWith (ws : List Word) (w : Word) : Type 0 where
  part : List Word
  behind : List Word
  expression : IsInProgramExpression ws part (w ∷ behind)

-- ---- inside a sum or a guard

-- the sum 0
zero_sum : IsSum (expressions.Number (pos 0)) (at 0 (Number (pos 0)) ∷ [])
zero_sum = product (factor (number 0 (pos 0)))

hole_goes : (h : Hole) (w : Word) (v c m ws : List Word) → BeforeHole h v → rules.SpellsWhole (rule_of (kind_of_hole h)) (c ++ (w ∷ m)) → ws ≡ v ++ c
    → GoesOnWith ws w
hole_goes (for_if o b n) w v c m ws f s e = record {
  part = c;
  behind = m;
  expression = subst (λ (l : List Word). IsInProgramExpression l c (w ∷ m)) (sym (behind_word (at n IfWord) v c ws f e))
      (in_choice (depth_of o) n (in_block o b f.a f.front) s.1);
}
hole_goes (for_while o b n) w v c m ws f s e = record {
  part = c;
  behind = m;
  expression = subst (λ (l : List Word). IsInProgramExpression l c (w ∷ m)) (sym (behind_word (at n WhileWord) v c ws f e))
      (in_repetition (depth_of o) n (in_block o b f.a f.front) s.1);
}
hole_goes (for_index o b n x) w v c m ws f s e =
    let part : List Word = at n (Name x) ∷ at f.back.n OpenBracket ∷ c in
    let behind : List Word = m ++ (at 0 CloseBracket ∷ at 0 Equals ∷ at 0 (Number (pos 0)) ∷ []) in
    let spelled = assign One 0 (element_at n f.back.n 0 x s.1) zero_sum in
    let words : ((c ++ (w ∷ m)) ++ at 0 CloseBracket ∷ []) ++ (at 0 Equals ∷ at 0 (Number (pos 0)) ∷ []) ≡ c ++ (w ∷ behind) =
    append_assoc (c ++ (w ∷ m)) (at 0 CloseBracket ∷ []) (at 0 Equals ∷ at 0 (Number (pos 0)) ∷ [])
    ∙ append_assoc c (w ∷ m) (at 0 CloseBracket ∷ at 0 Equals ∷ at 0 (Number (pos 0)) ∷ []) in
    let all : ws ≡ f.a ++ part = rw (e, f.is, f.back.is, f.back.front) (simp append_assoc) in
    record {
      part = part;
      behind = behind;
      expression = subst (λ (l : List Word). IsInProgramExpression l part (w ∷ behind)) (sym all)
          (in_assignment (depth_of o) (in_block o b f.a f.front)
          (subst
          (λ (l : List Word). IsAssignment One (destination_assignment (element x s.0) (expressions.Number (pos 0)))
          (at n (Name x) ∷ at f.back.n OpenBracket ∷ l))
          words spelled));
    }
hole_goes (for_value o b n d) w v c m ws f s e =
    let part : List Word = f.back.a ++ (at f.back.n Equals ∷ c) in
    let all : ws ≡ f.a ++ part = rw (e, f.is, f.back.is) (simp append_assoc) in
    record {
      part = part;
      behind = m;
      expression = subst (λ (l : List Word). IsInProgramExpression l part (w ∷ m)) (sym all)
          (in_assignment (depth_of o) (in_block o b f.a f.front)
          (subst (λ (l : List Word). IsAssignment One (destination_assignment d s.0) l) (sym (append_assoc f.back.a (at f.back.n Equals ∷ c) (w ∷ m)))
          (assign One f.back.n f.back.front.spelled s.1)));
    }

went_on : (h : Hole) (i j : Inside) (n : ℕ) (t : TokenKind) (ws : List Word) → Cut (BeforeHole h) (LeadsInside h i) ws → inner.expression_step i t ≡ Some j
    → GoesOnWith ws (at n t)
went_on h i j n t ws k e =
    let m = completed (rule_of (kind_of_hole h)) (k.b ++ at n t ∷ [])
    (expression_begins (kind_of_hole h) (k.b ++ at n t ∷ []) j (leads_on h i j n t k.b k.back e)) in
    hole_goes h (at n t) k.a k.b m.0 ws k.front
    (subst (λ (l : List Word). rules.SpellsWhole (rule_of (kind_of_hole h)) l) (append_assoc k.b (at n t ∷ []) m.0) m.1) k.is

-- ---- no brace of a block is counted

guard_brace : (a c ws : List Word) (m : ℕ) (t : TokenKind) (g : expressions.Guard (List ℕ)) → ((u : Bool) → unit_behind u (at m t ∷ c) ≡ unit_behind true c)
    → IsGuard g c → ws ≡ a ++ (at m t ∷ c) → IsTrue (unit_behind false ws) → ⊥
guard_brace a c ws m t g e p q h = true_and_false (unit_behind false ws) h
    (ap (unit_behind false) q ∙ unit_append a (at m t ∷ c) false ∙ e (unit_behind false a) ∙ guard_unit g c p)

after_counted : (t : TokenKind) (h : Hole) (w : Whole) (n : ℕ) (v c ws : List Word) → BeforeHole h v → SpellsExpression (kind_of_hole h) w c → ws ≡ v ++ c
    → IsTrue (is_counted (unit_behind false ws) t) → IfSome (step_after t h w) (λ r. GoesOnWith ws (at n t))
after_counted OpenBrace (for_if o b m) (whole_guard g) n v c ws f s e k =
    absurd (guard_brace f.a c ws m IfWord g (λ u. refl) s (behind_word (at m IfWord) v c ws f e) k)
after_counted OpenBrace (for_while o b m) (whole_guard g) n v c ws f s e k =
    absurd (guard_brace f.a c ws m WhileWord g (λ u. refl) s (behind_word (at m WhileWord) v c ws f e) k)
after_counted OpenBrace (for_index o b m x) w n v c ws f s e k = tt
after_counted OpenBrace (for_value o b m d) w n v c ws f s e k = tt
after_counted CloseBracket h w n v c ws f s e k = absurd cc
after_counted Semicolon h w n v c ws f s e k = absurd cc
after_counted _ h w n v c ws f s e k = tt

inside_counted : (n : ℕ) (t : TokenKind) (h : Hole) (i : Inside) (ws : List Word) (k : Cut (BeforeHole h) (LeadsInside h i) ws) (o : Option Inside)
    (w : Option Whole) → inner.expression_step i t ≡ o → whole_at i ≡ w → IsTrue (is_counted (unit_behind false ws) t)
    → IfSome (step_inside o w h t) (λ r. GoesOnWith ws (at n t))
inside_counted n t h i ws k (Some j) w e g c = went_on h i j n t ws k e
inside_counted n t h i ws k None (Some w) e g c = after_counted t h w n k.a k.b ws k.front (sound_expression (kind_of_hole h) k.b i w k.back g) k.is c
inside_counted n t h i ws k None None e g c = tt

head_unit : (ds : List Declaration) (ws : List Word) → IsHead ds ws → unit_behind false ws ≡ false
head_unit ds ws h = ap (unit_behind false) h.is ∙ declarations_unit ds h.a h.declarations

no_unit : (P : List Word → Type 0) (a ws : List Word) → Follows P (λ m. at m Else) ws → unit_behind false (a ++ ws) ≡ false
no_unit P a ws h = unit_append a ws false ∙ ap (unit_behind (unit_behind false a)) h.is ∙ else_unit h.a h.n (unit_behind false a)

-- ---- the other parse states

statement_counted : (t : TokenKind) (n : ℕ) (o : Open) (b : Named) (ws : List Word) (u : Bool) → IsTrue (is_counted u t)
    → IfSome (step_statement n t o b) (λ r. GoesOnWith ws (at n t))
statement_counted (Name x) n o b ws u k = absurd cc
statement_counted IfWord n o b ws u k = absurd cc
statement_counted WhileWord n o b ws u k = absurd cc
statement_counted CloseBrace n o b ws u k = absurd cc
statement_counted _ n o b ws u k = tt

declaring_counted : (s : Declaring) (t : TokenKind) (n : ℕ) (ds : List Declaration) (ws : List Word) (u : Bool) → IsTrue (is_counted u t)
    → IfSome (step_declaring (declaring.declaration_step s t) ds) (λ r. GoesOnWith ws (at n t))
declaring_counted (declaring.at_sort m r) Array n ds ws u k = absurd cc
declaring_counted (declaring.at_sort m r) (Name x) n ds ws u k = absurd cc
declaring_counted (declaring.at_sort m r) _ n ds ws u k = tt
declaring_counted (declaring.at_name d) (Name x) n ds ws u k = absurd cc
declaring_counted (declaring.at_name d) _ n ds ws u k = tt
declaring_counted (declaring.after_name d) Comma n ds ws u k = absurd cc
declaring_counted (declaring.after_name d) Semicolon n ds ws u k = absurd cc
declaring_counted (declaring.after_name d) _ n ds ws u k = tt

-- the bracket that opens the index of a destination
index_goes : (o : Open) (b : Named) (m n : ℕ) (x : List ℕ) (a ws : List Word) → IsWithin o b a → ws ≡ a ++ at m (Name x) ∷ [] → GoesOnWith ws (at n OpenBracket)
index_goes o b m n x a ws h e =
    let part : List Word = at m (Name x) ∷ [] in
    let behind : List Word = at 0 (Number (pos 0)) ∷ at 0 CloseBracket ∷ at 0 Equals ∷ at 0 (Number (pos 0)) ∷ [] in
    let spelled : IsAssignment One (destination_assignment (element x (expressions.Number (pos 0))) (expressions.Number (pos 0)))
    (part ++ (at n OpenBracket ∷ behind)) =
    assign One 0 (element_at m n 0 x zero_sum) zero_sum in
    record {
      part = part;
      behind = behind;
      expression = subst (λ (l : List Word). IsInProgramExpression l part (at n OpenBracket ∷ behind)) (sym e)
          (in_assignment (depth_of o) (in_block o b a h) spelled);
    }

counted_goes : (s : ProgramParseState) (n : ℕ) (t : TokenKind) (ws : List Word) → Reached s ws → IsTrue (is_counted (unit_behind false ws) t)
    → IfSome (program_step s n t) (λ r. GoesOnWith ws (at n t))
counted_goes at_prog n Prog ws h k = absurd cc
counted_goes after_prog n Semicolon ws h k = absurd cc
counted_goes (at_declaration ds) n (Declare r) ws h k = absurd cc
counted_goes (at_declaration ds) n OpenBrace ws h k = absurd (true_and_false (unit_behind false ws) k (head_unit ds ws h))
counted_goes (in_declaration ds s) n t ws h k = declaring_counted s t n ds ws (unit_behind false ws) k
counted_goes (at_block o) n t ws h k = statement_counted t n o End ws (unit_behind false ws) k
counted_goes (at_statement o b) n t ws h k = statement_counted t n o b ws (unit_behind false ws) k
counted_goes (after_name o b m x) n Equals ws h k = absurd cc
counted_goes (after_name o b m x) n OpenBracket ws h k = index_goes o b m n x h.a ws h.front (h.is ∙ ap (λ (l : List Word). h.a ++ l) h.back)
counted_goes (at_equals o b m d) n Equals ws h k = absurd cc
counted_goes (inside h i) n t ws c k = inside_counted n t h i ws c (inner.expression_step i t) (whole_at i) refl refl k
counted_goes (after h w) n t ws c k = absurd c
counted_goes (after_yes o b m g y) n Else ws h k = absurd cc
counted_goes (after_yes o b m g y) n t ws h k = statement_counted t n o (join_blocks b (If m g y End End)) ws (unit_behind false ws) k
counted_goes (at_no o b m g y) n OpenBrace ws h k =
    absurd (true_and_false (unit_behind false ws) k (ap (unit_behind false) h.is ∙ no_unit (IsChoice m g y) h.a h.b h.back))
counted_goes at_prog n _ ws h k = tt
counted_goes after_prog n _ ws h k = tt
counted_goes (at_declaration ds) n _ ws h k = tt
counted_goes (after_name o b m x) n _ ws h k = tt
counted_goes (at_equals o b m d) n _ ws h k = tt
counted_goes (at_no o b m g y) n _ ws h k = tt
counted_goes (at_end p) n _ ws h k = tt

if_some : (X : Type 0) (o : Option ProgramParseState) (r : ProgramParseState) → IfSome o (λ s. X) → o ≡ Some r → X
if_some X None r h e = absurd cc
if_some X (Some s) r h e = h

-- the first word that is past the limit is one too many
pub first_marked : (ws : List Word) (s r : ProgramParseState) (n : ℕ) (t : TokenKind) → walk ws at_prog ≡ Some s → program_step s n t ≡ Some r
    → count_behind false 0 ws ≤ 128 → is_past_program_limit (unit_behind false ws) t (count_behind false 0 ws) ≡ true → IsOneTooManyInProgram ws (at n t)
first_marked ws s r n t q e few m =
    let two = and_parts (is_counted (unit_behind false ws) t) (nat_le 128 (count_behind false 0 ws)) m in
    let g : GoesOnWith ws (at n t) = if_some (GoesOnWith ws (at n t)) (program_step s n t) r (counted_goes s n t ws (reached ws s q) two.0) e in
    let p : InPart ws g.part (at n t ∷ g.behind) = part_counts ws g.part (at n t ∷ g.behind) g.expression in
    let least : 128 ≤ count_behind false 0 ws = leb-true 128 (count_behind false 0 ws) two.1 in
    record {
      operator = sym (operator_counted t (unit_behind false ws) p.goes.0) ∙ two.0;
      part = g.part;
      behind = g.behind;
      expression = g.expression;
      full = omega (arith, p.counts, least, few);
    }
