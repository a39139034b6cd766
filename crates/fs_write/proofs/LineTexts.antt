-- The text of a transition reads as the transition.
use Rattle.std.proofs.Common.{◌≡◌, ℕ, suc, ◌+◌, ◌≤◌, nat_le, true, ◌&&◌, List, [], ◌∷◌, ◌++◌, map, length, Option, Some, None, Result, codes, refl, sym, ap}
use Rattle.std.proofs.Common.{subst, append-nil, append_assoc, add-zero, arith}
use Rattle.std.specs.List.{flat_map, list_all, list_any}
use Rattle.std.proofs.lemmas.Bool.{and_parts, leb-true}
use Rattle.fs_model.specs.Words.{is_word_byte, is_name}
use Rattle.fs_model.specs.Expressions.{Expression, Guard, Assignment, Assign, ArrayWrite, Emit}
use Rattle.fs_model.specs.Source.{SourceTransition, Source}
use Rattle.fs_model.specs.Limits.{most_operators}
use Rattle.fs_model.specs.WellFormed.{operators_of_expression, operators_of_guard, is_natural_expression, is_natural_guard, is_well_formed_condition}
use Rattle.fs_model.specs.WellFormed.{is_well_formed_assignment, is_well_formed_transition}
use Rattle.fs_grammar.specs.declared.fault.TextFault.{TextFault}
use Rattle.fs_grammar.specs.declared.format.Format.TheVariants.{Two}
use Rattle.fs_grammar.specs.declared.token.TokenKind.{TokenKind}
use Rattle.fs_grammar.specs.declared.token.TokenKind.TheVariants as tokens
use Rattle.fs_grammar.specs.PartEnds.{IsNoProduct, IsNoIndex}
use Rattle.fs_grammar.specs.Grammar.{OpenState, OpenTransition, with_transitions, with_assignments, close_transition, scalar, element, port, write_index, value}
use Rattle.fs_grammar.specs.Grammar.{ParseState, at_sum, at_guard, at_transition, at_target, after_target, at_assignment, at_port, after_assignment_name}
use Rattle.fs_grammar.specs.Grammar.{at_equals, after_guard, after_sum, step}
use Rattle.fs_grammar.specs.Grammar as grammar
use Rattle.fs_grammar.proofs.Appending.{assignments_twice, transitions_twice}
use Rattle.fs_write.specs.NeededFormats.{is_emit, emits_in_transition}
use Rattle.fs_write.specs.Canonical.{infix_expression_text, guard_text, assignment_text, after_comma, comma_list, assignments_text, when_text, line_text}
use Rattle.fs_write.specs.Spellable.{is_spellable_expression, is_spellable_assignment, is_spellable_condition, is_spellable_transition}
use Rattle.fs_write.specs.NeededFormats.{is_emit, emits_in_transition}
use Rattle.fs_write.specs.CanonicalLines.{lines_from}
use Rattle.fs_write.proofs.Steps.{Reads, Follows, begins_no, joined, plain_room, border_room, space_reads, newline_reads}
use Rattle.fs_write.proofs.Allowed.{Allows, allows_left, allows_right}
use Rattle.fs_write.proofs.Words.{one_token, name_reads}
use Rattle.fs_write.proofs.Punctuation.{open_bracket_lexeme, punctuation_reads, mark_reads}
use Rattle.fs_write.proofs.ExpressionTexts.{ExpressionReads, expression_reads}
use Rattle.fs_write.proofs.GuardTexts.{guard_reads}

-- ---- assignments

-- where an assignment's value has been read
abbrev pub valued : OpenTransition → Assignment (List ℕ) → ParseState
valued o (Assign x e) = after_sum e (value o (scalar x))
valued o (ArrayWrite x i e) = after_sum e (value o (element x i))
valued o (Emit x e) = after_sum e (value o (port x))

comma_steps : (n : ℕ) (o : OpenTransition) (a : Assignment (List ℕ)) → step (valued o a) n tokens.Comma ≡ Some (at_assignment (with_assignments o (a ∷ [])))
comma_steps n o (Assign x e) = refl
comma_steps n o (ArrayWrite x i e) = refl
comma_steps n o (Emit x e) = refl

semicolon_steps : (n : ℕ) (o : OpenTransition) (a : Assignment (List ℕ))
    → step (valued o a) n tokens.Semicolon ≡ Some (at_transition (close_transition (with_assignments o (a ∷ []))))
semicolon_steps n o (Assign x e) = refl
semicolon_steps n o (ArrayWrite x i e) = refl
semicolon_steps n o (Emit x e) = refl

assign_reads : {line_number : ℕ} {r : Result Source TextFault} (x : List ℕ) (e : Expression (List ℕ)) (rest : List ℕ) (u : TokenKind) (o : OpenTransition)
    → is_name x ≡ true → ExpressionReads e → operators_of_expression e ≤ 128 → Follows rest u → IsNoIndex (Some u) → IsNoProduct (Some u)
    → Reads line_number 0 rest (valued o (Assign x e)) r → Reads line_number 128 (assignment_text (Assign x e) ++ rest) (at_assignment o) r
assign_reads {line_number} {r} x e rest u o h t few f i p d =
    let after : Reads line_number 128 (infix_expression_text e ++ rest) (at_sum (value o (scalar x))) r =
    t.sum.reads line_number 0 128 rest u (at_sum (value o (scalar x))) (value o (scalar x)) r (omega arith) f i p (λ n v q. refl) d in
    let body = infix_expression_text e ++ rest in
    let equals : Reads line_number 128 (codes " = " ++ body) (after_assignment_name o x) r =
    space_reads (61 ∷ 32 ∷ body)
    (mark_reads 61 (32 ∷ body) tokens.Equals (after_assignment_name o x) (at_sum (value o (scalar x))) refl refl refl refl refl refl (space_reads body after))
    in
    joined x (codes " = " ++ infix_expression_text e) rest (name_reads x (codes " = " ++ body) (at_assignment o) (after_assignment_name o x) h refl refl equals)

write_reads : {line_number : ℕ} {r : Result Source TextFault} (x : List ℕ) (j e : Expression (List ℕ)) (rest : List ℕ) (u : TokenKind) (o : OpenTransition)
    → is_name x ≡ true → ExpressionReads j → ExpressionReads e → 1 + (operators_of_expression j + operators_of_expression e) ≤ 128 → Follows rest u
    → IsNoIndex (Some u)
    → IsNoProduct (Some u)
    → Reads line_number 0 rest (valued o (ArrayWrite x j e)) r → Reads line_number 128 (assignment_text (ArrayWrite x j e) ++ rest) (at_assignment o) r
write_reads {line_number} {r} x j e rest u o h s t few f i p d =
    let operator_count = operators_of_expression e in
    let after : Reads line_number operator_count (infix_expression_text e ++ rest) (at_sum (value o (element x j))) r =
    t.sum.reads line_number 0 operator_count rest u (at_sum (value o (element x j))) (value o (element x j)) r (omega arith) f i p (λ n v q. refl) d in
    let body = infix_expression_text e ++ rest in
    let equals : Reads line_number operator_count (codes " = " ++ body) (at_equals o (element x j)) r =
    space_reads (61 ∷ 32 ∷ body)
    (mark_reads 61 (32 ∷ body) tokens.Equals (at_equals o (element x j)) (at_sum (value o (element x j))) refl refl refl refl refl refl
    (space_reads body after))
    in
    let close : Reads line_number operator_count (codes "] = " ++ body) (after_sum j (write_index o x)) r =
    mark_reads 93 (codes " = " ++ body) tokens.CloseBracket (after_sum j (write_index o x)) (at_equals o (element x j)) refl refl refl refl refl refl equals in
    let inside : Reads line_number (operators_of_expression j + operator_count) (infix_expression_text j ++ (codes "] = " ++ body)) (at_sum (write_index o x)) r =
    s.sum.reads line_number operator_count (operators_of_expression j + operator_count) (codes "] = " ++ body) tokens.CloseBracket (at_sum (write_index o x))
    (write_index o x) r (omega arith) (record { first = λ q n. refl; stops = refl }) tt tt (λ n v q. refl) close
    in
    let tail = (infix_expression_text j ++ (codes "] = " ++ infix_expression_text e)) ++ rest in
    let opened : Reads line_number 128 (91 ∷ tail) (after_assignment_name o x) r =
    punctuation_reads 91 tail tokens.OpenBracket (after_assignment_name o x) (at_sum (write_index o x))
    (open_bracket_lexeme tail) refl refl refl refl refl (omega arith) (joined (infix_expression_text j) (codes "] = " ++ infix_expression_text e) rest inside)
    in
    joined x (codes "[" ++ (infix_expression_text j ++ (codes "] = " ++ infix_expression_text e))) rest
    (name_reads x (91 ∷ tail) (at_assignment o) (after_assignment_name o x) h refl refl opened)

emit_reads : {line_number : ℕ} {r : Result Source TextFault} (x : List ℕ) (e : Expression (List ℕ)) (rest : List ℕ) (u : TokenKind) (o : OpenTransition)
    → o.state.format ≡ Two → is_name x ≡ true → ExpressionReads e → operators_of_expression e ≤ 128 → Follows rest u → IsNoIndex (Some u) → IsNoProduct (Some u)
    → Reads line_number 0 rest (valued o (Emit x e)) r → Reads line_number 128 (assignment_text (Emit x e) ++ rest) (at_assignment o) r
emit_reads {line_number} {r} x e rest u o two h t few f i p d =
    let after : Reads line_number 128 (infix_expression_text e ++ rest) (at_sum (value o (port x))) r =
    t.sum.reads line_number 0 128 rest u (at_sum (value o (port x))) (value o (port x)) r (omega arith) f i p (λ n v q. refl) d in
    let body = infix_expression_text e ++ rest in
    let name : Reads line_number 128 (x ++ (32 ∷ body)) (at_port o) r =
    name_reads x (32 ∷ body) (at_port o) (at_sum (value o (port x))) h refl refl (space_reads body after) in
    let tail = (x ++ (codes " " ++ infix_expression_text e)) ++ rest in
    one_token 101 (codes "mit") (32 ∷ tail) tokens.Emit (at_assignment o) (at_port o) refl refl refl (plain_room tokens.Emit 128 refl refl) (rw two refl)
    (space_reads tail (joined x (codes " " ++ infix_expression_text e) rest name))

assignment_reads : {line_number : ℕ} {r : Result Source TextFault} (a : Assignment (List ℕ)) (rest : List ℕ) (u : TokenKind) (o : OpenTransition)
    → Allows o.state.format (is_emit a) → is_well_formed_assignment a ≡ true → is_spellable_assignment a ≡ true → Follows rest u → IsNoIndex (Some u)
    → IsNoProduct (Some u)
    → Reads line_number 0 rest (valued o a) r → Reads line_number 128 (assignment_text a ++ rest) (at_assignment o) r
assignment_reads (Assign x e) rest u o k h l f i p d =
    let n = and_parts (is_natural_expression e) (nat_le (operators_of_expression e) most_operators) h in
    let w = and_parts (is_name x) (is_spellable_expression e) l in
    assign_reads x e rest u o w.0 (expression_reads e n.0 w.1) (leb-true (operators_of_expression e) 128 n.1) f i p d
assignment_reads (ArrayWrite x j e) rest u o k h l f i p d =
    let n = and_parts (is_natural_expression j && is_natural_expression e)
    (nat_le (1 + (operators_of_expression j + operators_of_expression e)) most_operators) h in
    let m = and_parts (is_natural_expression j) (is_natural_expression e) n.0 in
    let w = and_parts (is_name x) (is_spellable_expression j && is_spellable_expression e) l in
    let v = and_parts (is_spellable_expression j) (is_spellable_expression e) w.1 in
    write_reads x j e rest u o w.0 (expression_reads j m.0 v.0) (expression_reads e m.1 v.1)
    (leb-true (1 + (operators_of_expression j + operators_of_expression e)) 128 n.1) f i p d
assignment_reads (Emit x e) rest u o k h l f i p d =
    let n = and_parts (is_natural_expression e) (nat_le (operators_of_expression e) most_operators) h in
    let w = and_parts (is_name x) (is_spellable_expression e) l in
    emit_reads x e rest u o (k refl) w.0 (expression_reads e n.0 w.1) (leb-true (operators_of_expression e) 128 n.1) f i p d

-- ---- the assignments of a transition

-- the texts after the first, up to the end of the line
abbrev pub more : List (List ℕ) → List ℕ → List ℕ
more texts rest = flat_map after_comma texts ++ (59 ∷ 10 ∷ rest)

-- what comes after a text of a list
record Ends (bytes : List ℕ) : Type 0 where
  token : TokenKind
  follows : Follows bytes token
  index : IsNoIndex (Some token)
  product : IsNoProduct (Some token)

more_ends : (texts : List (List ℕ)) (rest : List ℕ) → Ends (more texts rest)
more_ends [] rest = record { token = tokens.Semicolon; follows = record { first = λ p n. refl; stops = refl }; index = tt; product = tt }
more_ends (text ∷ texts) rest = record { token = tokens.Comma; follows = record { first = λ p n. refl; stops = refl }; index = tt; product = tt }

pub more_stops : (texts : List (List ℕ)) (rest : List ℕ) → begins_no is_word_byte (more texts rest) ≡ true
more_stops texts rest = (more_ends texts rest).follows.stops

more_assignments : {line_number : ℕ} {r : Result Source TextFault} (o : OpenTransition) (a : Assignment (List ℕ)) (xs : List (Assignment (List ℕ)))
    (rest : List ℕ) → Allows o.state.format (list_any is_emit xs) → list_all is_well_formed_assignment xs ≡ true → list_all is_spellable_assignment xs ≡ true
    → Reads (line_number + 1) 0 rest (at_transition (close_transition (with_assignments o (a ∷ xs)))) r
    → Reads line_number 0 (more (map assignment_text xs) rest) (valued o a) r
more_assignments {line_number} o a [] rest k h l d = mark_reads 59 (10 ∷ rest) tokens.Semicolon (valued o a)
    (at_transition (close_transition (with_assignments o (a ∷ [])))) refl refl refl refl refl (semicolon_steps line_number o a) (newline_reads rest d)
more_assignments {line_number} {r} o a (b ∷ xs) rest k h l d =
    let n = and_parts (is_well_formed_assignment b) (list_all is_well_formed_assignment xs) h in
    let w = and_parts (is_spellable_assignment b) (list_all is_spellable_assignment xs) l in
    let p : OpenTransition = with_assignments o (a ∷ []) in
    let texts = map assignment_text xs in
    let e = more_ends texts rest in
    let last : Reads (line_number + 1) 0 rest (at_transition (close_transition (with_assignments p (b ∷ xs)))) r =
    subst (λ (q : OpenTransition). Reads (line_number + 1) 0 rest (at_transition (close_transition q)) r) (sym (assignments_twice o (a ∷ []) (b ∷ xs))) d in
    let tail : Reads line_number 0 (more texts rest) (valued p b) r =
    more_assignments p b xs rest (allows_right o.state.format (is_emit b) (list_any is_emit xs) k) n.1 w.1 last in
    let next : Reads line_number 128 (assignment_text b ++ more texts rest) (at_assignment p) r =
    assignment_reads b (more texts rest) e.token p (allows_left o.state.format (is_emit b) (list_any is_emit xs) k) n.0 w.0 e.follows e.index e.product tail in
    joined (after_comma (assignment_text b)) (flat_map after_comma texts) (59 ∷ 10 ∷ rest)
    (one_token 44 [] (32 ∷ (assignment_text b ++ more texts rest)) tokens.Comma (valued o a)
    (at_assignment p) refl refl refl (border_room tokens.Comma 0 refl refl) (comma_steps line_number o a)
    (space_reads (assignment_text b ++ more texts rest) next))

assignments_read : {line_number : ℕ} {r : Result Source TextFault} (o : OpenTransition) (xs : List (Assignment (List ℕ))) (rest : List ℕ)
    → Allows o.state.format (list_any is_emit xs) → o.assignments ≡ [] → list_all is_well_formed_assignment xs ≡ true
    → list_all is_spellable_assignment xs ≡ true
    → Reads (line_number + 1) 0 rest (at_transition (close_transition (record o { assignments = xs }))) r
    → Reads line_number 0 (assignments_text xs ++ (59 ∷ 10 ∷ rest)) (after_target o) r
assignments_read {line_number} {r} o [] rest k e h l d =
    mark_reads 59 (10 ∷ rest) tokens.Semicolon (after_target o) (at_transition (close_transition o)) refl refl refl refl refl refl
    (newline_reads rest
    (subst (λ (q : List (Assignment (List ℕ))). Reads (line_number + 1) 0 rest (at_transition (close_transition (record o { assignments = q }))) r) (sym e) d))
assignments_read {line_number} {r} o (a ∷ xs) rest k e h l d =
    let n = and_parts (is_well_formed_assignment a) (list_all is_well_formed_assignment xs) h in
    let w = and_parts (is_spellable_assignment a) (list_all is_spellable_assignment xs) l in
    let texts = map assignment_text xs in
    let f = more_ends texts rest in
    let last : Reads (line_number + 1) 0 rest (at_transition (close_transition (with_assignments o (a ∷ xs)))) r =
    subst (λ (q : List (Assignment (List ℕ))). Reads (line_number + 1) 0 rest (at_transition (close_transition (record o { assignments = q ++ (a ∷ xs) }))) r)
    (sym e) d in
    let tail : Reads line_number 0 (more texts rest) (valued o a) r =
    more_assignments o a xs rest (allows_right o.state.format (is_emit a) (list_any is_emit xs) k) n.1 w.1 last in
    let next : Reads line_number 128 (assignment_text a ++ more texts rest) (at_assignment o) r =
    assignment_reads a (more texts rest) f.token o (allows_left o.state.format (is_emit a) (list_any is_emit xs) k) n.0 w.0 f.follows f.index f.product tail in
    let first : Reads line_number 128 ((assignment_text a ++ flat_map after_comma texts) ++ (59 ∷ 10 ∷ rest)) (at_assignment o) r =
    joined (assignment_text a) (flat_map after_comma texts) (59 ∷ 10 ∷ rest) next in
    one_token 58 [] (32 ∷ (comma_list (map assignment_text (a ∷ xs)) ++ (59 ∷ 10 ∷ rest))) tokens.Colon (after_target o)
    (at_assignment o) refl refl refl (border_room tokens.Colon 0 refl refl) refl
    (space_reads (comma_list (map assignment_text (a ∷ xs)) ++ (59 ∷ 10 ∷ rest)) first)

-- ---- transitions

assignments_stop : (xs : List (Assignment (List ℕ))) (rest : List ℕ) → Ends (assignments_text xs ++ (59 ∷ 10 ∷ rest))
assignments_stop [] rest = record { token = tokens.Semicolon; follows = record { first = λ p n. refl; stops = refl }; index = tt; product = tt }
assignments_stop (a ∷ xs) rest = record { token = tokens.Colon; follows = record { first = λ p n. refl; stops = refl }; index = tt; product = tt }

-- from the word goto on
goto_reads : {line_number : ℕ} {r : Result Source TextFault} (l : SourceTransition) (d : OpenState) (s : ParseState) (rest : List ℕ)
    → Allows d.format (emits_in_transition l) → is_name l.content.target ≡ true → list_all is_well_formed_assignment l.content.assignments ≡ true
    → list_all is_spellable_assignment l.content.assignments ≡ true
    → step s line_number tokens.Goto ≡ Some (at_target d line_number l.content.guard)
    → Reads (line_number + 1) 0 rest (at_transition (with_transitions d (record { line = line_number; content = l.content } ∷ []))) r
    → Reads line_number 0 (codes "goto " ++ (l.content.target ++ (assignments_text l.content.assignments ++ (59 ∷ 10 ∷ rest)))) s r
goto_reads {line_number} {r} l d s rest k x h w f c =
    let o : OpenTransition = record { state = d; line = line_number; guard = l.content.guard; target = l.content.target; assignments = [] } in
    let end = assignments_text l.content.assignments ++ (59 ∷ 10 ∷ rest) in
    let e = assignments_stop l.content.assignments rest in
    let acts : Reads line_number 0 end (after_target o) r = assignments_read o l.content.assignments rest k refl h w c in
    let target : Reads line_number 0 (l.content.target ++ end) (at_target d line_number l.content.guard) r =
    name_reads l.content.target end (at_target d line_number l.content.guard) (after_target o) x e.follows.stops refl acts in
    one_token 103 (codes "oto") (32 ∷ (l.content.target ++ end)) tokens.Goto s (at_target d line_number l.content.guard) refl refl refl
    (plain_room tokens.Goto 0 refl refl) f (space_reads (l.content.target ++ end) target)

condition_reads : {line_number : ℕ} {r : Result Source TextFault} (g : Option (Guard (List ℕ))) (d : OpenState) (rest : List ℕ)
    → is_well_formed_condition g ≡ true → is_spellable_condition g ≡ true
    → ((s : ParseState) → step s line_number tokens.Goto ≡ Some (at_target d line_number g) → Reads line_number 0 (codes "goto " ++ rest) s r)
    → Reads line_number 0 (when_text g ++ (codes "goto " ++ rest)) (at_transition d) r
condition_reads None d rest h l f = f (at_transition d) refl
condition_reads {line_number} {r} (Some g) d rest h l f =
    let n = and_parts (is_natural_guard g) (nat_le (operators_of_guard g) most_operators) h in
    let few = leb-true (operators_of_guard g) 128 n.1 in
    let end = codes " goto " ++ rest in
    let goes : Reads line_number 0 end (after_guard g (grammar.transition_guard d line_number)) r =
    space_reads (codes "goto " ++ rest) (f (after_guard g (grammar.transition_guard d line_number)) refl) in
    let guard : Reads line_number 128 (guard_text g ++ end) (at_guard (grammar.transition_guard d line_number)) r =
    (guard_reads g n.0 l).guard.reads line_number 0 128 end tokens.Goto (grammar.transition_guard d line_number) r (omega arith)
    (record { first = λ p m. refl; stops = refl }) (record { index = tt; product = tt; sum = tt }) tt goes
    in
    one_token 119 (codes "hen") (32 ∷ ((guard_text g ++ codes " ") ++ (codes "goto " ++ rest))) tokens.When (at_transition d)
    (at_guard (grammar.transition_guard d line_number)) refl refl refl (border_room tokens.When 0 refl refl) refl
    (space_reads ((guard_text g ++ codes " ") ++ (codes "goto " ++ rest)) (joined (guard_text g) (codes " ") (codes "goto " ++ rest) guard))

-- a transition is read, and the next line begins
pub line_reads : {line_number : ℕ} {r : Result Source TextFault} (l : SourceTransition) (d : OpenState) (rest : List ℕ)
    → Allows d.format (emits_in_transition l) → is_well_formed_transition l ≡ true → is_spellable_transition l ≡ true
    → Reads (line_number + 1) 0 rest (at_transition (with_transitions d (record { line = line_number; content = l.content } ∷ []))) r
    → Reads line_number 0 (line_text l ++ rest) (at_transition d) r
line_reads {line_number} {r} l d rest k h s c =
    let n = and_parts (is_well_formed_condition l.content.guard) (list_all is_well_formed_assignment l.content.assignments) h in
    let w = and_parts (is_spellable_condition l.content.guard) (is_name l.content.target && list_all is_spellable_assignment l.content.assignments) s in
    let v = and_parts (is_name l.content.target) (list_all is_spellable_assignment l.content.assignments) w.1 in
    let guard = when_text l.content.guard in
    let tail = l.content.target ++ (assignments_text l.content.assignments ++ (59 ∷ 10 ∷ rest)) in
    let same : (guard ++ (codes "goto " ++ (l.content.target ++ (assignments_text l.content.assignments ++ codes ";\n")))) ++ rest ≡ guard
    ++ (codes "goto " ++ tail) = simp append_assoc in
    let read : Reads line_number 0 (guard ++ (codes "goto " ++ tail)) (at_transition d) r =
    condition_reads l.content.guard d tail n.0 w.0 (λ q e. goto_reads l d q rest k v.0 n.1 v.1 e c) in
    let body = (guard ++ (codes "goto " ++ (l.content.target ++ (assignments_text l.content.assignments ++ codes ";\n")))) ++ rest in
    space_reads (32 ∷ body) (space_reads body (subst (λ (bytes : List ℕ). Reads line_number 0 bytes (at_transition d) r) (sym same) read))

-- the transitions of a state, each on its line
pub lines_read : {r : Result Source TextFault} (line_number : ℕ) (ls : List SourceTransition) (d : OpenState) (rest : List ℕ)
    → Allows d.format (list_any emits_in_transition ls) → list_all is_well_formed_transition ls ≡ true → list_all is_spellable_transition ls ≡ true
    → Reads (line_number + length ls) 0 rest (at_transition (with_transitions d (lines_from line_number ls))) r
    → Reads line_number 0 (flat_map line_text ls ++ rest) (at_transition d) r
lines_read {r} line_number [] d rest k h s c =
    let same : with_transitions d [] ≡ d =
    ap (λ (l : List SourceTransition). record d { state = record d.state { transitions = l } }) (append-nil d.state.transitions) in
    subst (λ (q : OpenState). Reads line_number 0 rest (at_transition q) r) same (rw add-zero at c)
lines_read {r} line_number (l ∷ ls) d rest k h s c =
    let n = and_parts (is_well_formed_transition l) (list_all is_well_formed_transition ls) h in
    let w = and_parts (is_spellable_transition l) (list_all is_spellable_transition ls) s in
    let first : List SourceTransition = record { line = line_number; content = l.content } ∷ [] in
    let there : line_number + suc (length ls) ≡ line_number + 1 + length ls = omega arith in
    let moved : Reads (line_number + 1 + length ls) 0 rest (at_transition (with_transitions d (lines_from line_number (l ∷ ls)))) r =
    subst (λ (k : ℕ). Reads k 0 rest (at_transition (with_transitions d (lines_from line_number (l ∷ ls)))) r) there c in
    let last : Reads (line_number + 1 + length ls) 0 rest (at_transition (with_transitions (with_transitions d first) (lines_from (line_number + 1) ls))) r =
    subst (λ (q : OpenState). Reads (line_number + 1 + length ls) 0 rest (at_transition q) r)
    (sym (transitions_twice d first (lines_from (line_number + 1) ls))) moved in
    joined (line_text l) (flat_map line_text ls) rest
    (line_reads l d (flat_map line_text ls ++ rest) (allows_left d.format (emits_in_transition l) (list_any emits_in_transition ls) k) n.0 w.0
    (lines_read (line_number + 1) ls (with_transitions d first) rest
    (allows_right d.format (emits_in_transition l) (list_any emits_in_transition ls) k) n.1 w.1 last))
