-- Tokens that are taken or refused in a program.
use Rattle.std.proofs.Common.{◌≡◌, ℕ, suc, Bool, true, false, cond, List, [], ◌∷◌, ◌++◌, Option, Some, None, Result, Ok, Err, refl, sym, ap, ◌∙◌}
use Rattle.std.specs.Prelude.{nat_lt}
use Rattle.fs_model.specs.declared.parts.Role.{Role}
use Rattle.fs_model.specs.Expressions.{Guard}
use Rattle.fs_model.specs.Source.{Declaration}
use Rattle.fs_grammar.specs.declared.fault.TextPlace.{TextPlace}
use Rattle.fs_grammar.specs.declared.fault.TextFault.{TextFault}
use Rattle.fs_grammar.specs.declared.fault.TextKind.TheVariants.{Operators, Nested}
use Rattle.fs_grammar.specs.declared.token.TokenKind.{TokenKind}
use Rattle.fs_grammar.specs.declared.token.TokenKind.TheVariants.{If as IfWord, Else, While as WhileWord, Declare, Name, OpenBracket, OpenBrace, CloseBrace}
use Rattle.fs_grammar.specs.declared.token.TokenKind.TheVariants.{End as EndOfBytes}
use Rattle.fs_grammar.specs.declared.token.Token.{Token}
use Rattle.fs_grammar.specs.Tokens.{kind_at, line_at, fault_at, tokens_after, ◌>>=◌}
use Rattle.fs_grammar.specs.PartEnds.{IsNoIndex, EndsName, name_in}
use Rattle.fs_grammar.specs.Grammar.{scalar}
use Rattle.fs_expression_text.specs.Inside.{whole_guard, at_sum, at_guard, sum_alone, guard_alone}
use Rattle.fs_phrase_text.specs.Declaring as declaring
use Rattle.hls_program_parts.specs.Programs.{End, If, join_blocks}
use Rattle.hls_program_parts.specs.WellFormedPrograms.{most_depth}
use Rattle.hls_program_parts.specs.declared.program.Stmt.{Stmt}
use Rattle.hls_program_parts.specs.View.{block_of_statement, block_of}
use Rattle.hls_program_parts.specs.ProgramGrammar.{Named, Open, outermost, in_yes, in_no, in_body, depth_of, for_if, for_while, for_index, ProgramParseState}
use Rattle.hls_program_parts.specs.ProgramGrammar.{at_declaration, in_declaration, at_block, at_statement, after_name, at_equals, inside, after, after_yes}
use Rattle.hls_program_parts.specs.ProgramGrammar.{at_no, close_block, is_deep, program_step, finish_program, program_reading}
use Rattle.hls_program_parts.proofs.Complete.{joined_end, joined_assoc}
use Rattle.hls_program_text.specs.Fronts.{role_in, role_at, IsNoKeyword, tokens_behind_brace}

-- two parse states read alike where each token leads both to the same, and both end alike
same_reading : (ts : List Token) (a b : ProgramParseState) → ((n : ℕ) (t : TokenKind) → kind_at ts ≡ Some t → program_step a n t ≡ program_step b n t)
    → finish_program a ≡ finish_program b → program_reading ts a ≡ program_reading ts b
same_reading [] a b h e = refl
same_reading (t ∷ ts) a b h e = rw (h t.place.line t.kind refl, e) refl

-- ---- a token that is taken

taken_by : (past_limit deep : Bool) (f g : TextFault) (ts : List Token) (n : ProgramParseState) → deep ≡ false
    → cond past_limit (Err f) (cond deep (Err g) (program_reading ts n)) ≡ (cond past_limit (Err f) (Ok ts) >>= λ r. program_reading r n)
taken_by true deep f g ts n e = refl
taken_by false true f g ts n e = absurd cc
taken_by false false f g ts n e = refl

-- a token that can follow, and opens no block
taken : (ts : List Token) (w : TokenKind) (s n : ProgramParseState) → kind_at ts ≡ Some w → program_step s (line_at ts) w ≡ Some n → is_deep n ≡ false
    → program_reading ts s ≡ (tokens_after ts >>= λ r. program_reading r n)
taken [] w s n e f d = absurd cc
taken (t ∷ ts) w s n e f d =
    let is : t.kind ≡ w = cc in
    rw (is, f) (taken_by t.past_limit (is_deep n) (fault_at t Operators) (fault_at t Nested) ts n d)

role_is : (o : Option TokenKind) (r : Role) → role_in o ≡ Some r → o ≡ Some (Declare r)
role_is (Some (Declare q)) r e =
    let same : q ≡ r = cc in
    ap (λ (x : Role). Some (Declare x)) same
role_is _ r e = absurd cc

-- the role with which a declaration begins
pub role_taken : (ts : List Token) (r : Role) (ds : List Declaration) → role_at ts ≡ Some r
    → program_reading ts (at_declaration ds) ≡ (tokens_after ts >>= λ v. program_reading v (in_declaration ds (declaring.at_sort (line_at ts) r)))
role_taken ts r ds e = taken ts (Declare r) (at_declaration ds) (in_declaration ds (declaring.at_sort (line_at ts) r)) (role_is (kind_at ts) r e) refl refl

-- the bracket that opens the index of a destination
pub bracket_taken : (ts : List Token) (o : Open) (b : Named) (n : ℕ) (x : List ℕ) → kind_at ts ≡ Some OpenBracket
    → program_reading ts (after_name o b n x) ≡ (tokens_after ts >>= λ r. program_reading r (inside (for_index o b n x) (at_sum sum_alone)))
bracket_taken ts o b n x e = taken ts OpenBracket (after_name o b n x) (inside (for_index o b n x) (at_sum sum_alone)) e refl refl

closes_shallow : (o : Open) (b : Named) → is_deep (close_block o b) ≡ false
closes_shallow (outermost ds) b = refl
closes_shallow (in_yes o d n g) b = refl
closes_shallow (in_no o d n g y) b = refl
closes_shallow (in_body o d n g) b = refl

-- the brace that closes a block
pub block_closed : (ts : List Token) (o : Open) (b : Named) → kind_at ts ≡ Some CloseBrace
    → program_reading ts (at_statement o b) ≡ (tokens_after ts >>= λ r. program_reading r (close_block o b))
block_closed ts o b e = taken ts CloseBrace (at_statement o b) (close_block o b) e refl (closes_shallow o b)

-- the words of choices and loops
pub if_taken : (ts : List Token) (o : Open) (b : Named) → kind_at ts ≡ Some IfWord
    → program_reading ts (at_statement o b) ≡ (tokens_after ts >>= λ r. program_reading r (inside (for_if o b (line_at ts)) (at_guard guard_alone)))
if_taken ts o b e = taken ts IfWord (at_statement o b) (inside (for_if o b (line_at ts)) (at_guard guard_alone)) e refl refl

pub while_taken : (ts : List Token) (o : Open) (b : Named) → kind_at ts ≡ Some WhileWord
    → program_reading ts (at_statement o b) ≡ (tokens_after ts >>= λ r. program_reading r (inside (for_while o b (line_at ts)) (at_guard guard_alone)))
while_taken ts o b e = taken ts WhileWord (at_statement o b) (inside (for_while o b (line_at ts)) (at_guard guard_alone)) e refl refl

pub else_taken : (ts : List Token) (o : Open) (b : Named) (n : ℕ) (g : Guard (List ℕ)) (y : Named) → kind_at ts ≡ Some Else
    → program_reading ts (after_yes o b n g y) ≡ (tokens_after ts >>= λ r. program_reading r (at_no o b n g y))
else_taken ts o b n g y e = taken ts Else (after_yes o b n g y) (at_no o b n g y) e refl refl

-- ---- what may be left out

scalar_steps : (n : ℕ) (t : TokenKind) (o : Open) (b : Named) (m : ℕ) (x : List ℕ) → IsNoIndex (Some t)
    → program_step (after_name o b m x) n t ≡ program_step (at_equals o b m (scalar x)) n t
scalar_steps n OpenBracket o b m x h = absurd h
scalar_steps n _ o b m x h = refl

-- a name without an index is a scalar that is assigned
pub scalar_ends : (ts : List Token) (o : Open) (b : Named) (m : ℕ) (x : List ℕ) → EndsName ts
    → program_reading ts (after_name o b m x) ≡ program_reading ts (at_equals o b m (scalar x))
scalar_ends ts o b m x h = same_reading ts (after_name o b m x) (at_equals o b m (scalar x)) (λ n t e. scalar_steps n t o b m x (rw e at h)) refl

abbrev IsNoElse : Option TokenKind → Type 0
IsNoElse (Some Else) = ⊥
IsNoElse _ = Unit {0}

else_steps : (n : ℕ) (t : TokenKind) (o : Open) (b : Named) (m : ℕ) (g : Guard (List ℕ)) (y : Named) → IsNoElse (Some t)
    → program_step (after_yes o b m g y) n t ≡ program_step (at_statement o (join_blocks b (If m g y End End))) n t
else_steps n Else o b m g y h = absurd h
else_steps n _ o b m g y h = refl

-- a choice ends where no `else` stands
pub no_else : (ts : List Token) (o : Open) (b : Named) (m : ℕ) (g : Guard (List ℕ)) (y : Named) → IsNoElse (kind_at ts)
    → program_reading ts (after_yes o b m g y) ≡ program_reading ts (at_statement o (join_blocks b (If m g y End End)))
no_else ts o b m g y h = same_reading ts (after_yes o b m g y) (at_statement o (join_blocks b (If m g y End End)))
    (λ n t e. else_steps n t o b m g y (rw e at h)) refl

-- a block begins as its first statement does
pub block_begins : (ts : List Token) (o : Open) → program_reading ts (at_block o) ≡ program_reading ts (at_statement o End)
block_begins ts o = same_reading ts (at_block o) (at_statement o End) (λ n t e. refl) refl

-- one more statement
pub joined_last : (xs : List Stmt) (x : Stmt) → block_of (xs ++ x ∷ []) ≡ join_blocks (block_of xs) (block_of_statement x)
joined_last [] x = joined_end (block_of_statement x)
joined_last (y ∷ xs) x = ap (join_blocks (block_of_statement y)) (joined_last xs x)
    ∙ sym (joined_assoc (block_of_statement y) (block_of xs) (block_of_statement x))

-- ---- names

abbrev with_name : List ℕ → List Token → Result (List ℕ × List Token) TextFault
with_name x ts = Ok (x, ts)

taken_name : (past_limit : Bool) (f : TextFault) (x : List ℕ) (ts : List Token) (n : List ℕ → ProgramParseState)
    → cond past_limit (Err f) (program_reading ts (n x)) ≡ ((cond past_limit (Err f) (Ok ts) >>= with_name x) >>= λ y. program_reading y.1 (n y.0))
taken_name true f x ts n = refl
taken_name false f x ts n = refl

of_kind : (w : TokenKind) (past_limit : Bool) (place : TextPlace) (ts : List Token) (o : Open) (b : Named) → IsNoKeyword (Some w)
    → program_reading (record { kind = w; past_limit = past_limit; place = place } ∷ ts) (at_statement o b)
    ≡ (name_in (record { kind = w; past_limit = past_limit; place = place } ∷ ts) >>= λ x. program_reading x.1 (after_name o b place.line x.0))
of_kind (Name x) past_limit place ts o b h = taken_name past_limit _ x ts (after_name o b place.line)
of_kind IfWord past_limit place ts o b h = absurd h
of_kind WhileWord past_limit place ts o b h = absurd h
of_kind CloseBrace past_limit place ts o b h = absurd h
of_kind _ past_limit place ts o b h = refl

-- an assignment begins with its name
pub name_read : (ts : List Token) (o : Open) (b : Named) → IsNoKeyword (kind_at ts)
    → program_reading ts (at_statement o b) ≡ (name_in ts >>= λ x. program_reading x.1 (after_name o b (line_at ts) x.0))
name_read [] o b h = refl
name_read (t ∷ ts) o b h = of_kind t.kind t.past_limit t.place ts o b h

-- ---- the brace that opens a block

abbrev IsNoBrace : TokenKind → Type 0
IsNoBrace OpenBrace = ⊥
IsNoBrace _ = Unit {0}

opened_cases : (past_limit deep : Bool) (f g : TextFault) (ts : List Token) (n : ProgramParseState)
    → cond past_limit (Err f) (cond deep (Err g) (program_reading ts n))
    ≡ ((cond past_limit (Err f) (Ok ts) >>= λ r. cond deep (Err g) (Ok r)) >>= λ r. program_reading r n)
opened_cases true deep f g ts n = refl
opened_cases false true f g ts n = refl
opened_cases false false f g ts n = refl

opens_by : (w : TokenKind) (past_limit : Bool) (place : TextPlace) (ts : List Token) (s : ProgramParseState) (o : Open)
    → program_step s place.line OpenBrace ≡ Some (at_block o) → (IsNoBrace w → program_step s place.line w ≡ None) → finish_program s ≡ None
    → program_reading (record { kind = w; past_limit = past_limit; place = place } ∷ ts) s
    ≡ (tokens_behind_brace (depth_of o) (record { kind = w; past_limit = past_limit; place = place } ∷ ts) >>= λ r. program_reading r (at_block o))
opens_by OpenBrace past_limit place ts s o e h f = rw e (opened_cases past_limit (nat_lt most_depth (depth_of o)) _ _ ts (at_block o))
opens_by EndOfBytes past_limit place ts s o e h f = rw (h tt, f) refl
opens_by w past_limit place ts s o e h f = rw (h tt) refl

opens : (ts : List Token) (s : ProgramParseState) (o : Open) → ((n : ℕ) → program_step s n OpenBrace ≡ Some (at_block o))
    → ((n : ℕ) (w : TokenKind) → kind_at ts ≡ Some w → IsNoBrace w → program_step s n w ≡ None) → finish_program s ≡ None
    → program_reading ts s ≡ (tokens_behind_brace (depth_of o) ts >>= λ r. program_reading r (at_block o))
opens [] s o e h f = refl
opens (t ∷ ts) s o e h f = opens_by t.kind t.past_limit t.place ts s o (e t.place.line) (h t.place.line t.kind refl) f

-- the first block of a choice
pub opens_yes : (ts : List Token) (o : Open) (b : Named) (n : ℕ) (g : Guard (List ℕ))
    → program_reading ts (after (for_if o b n) (whole_guard g))
    ≡ (tokens_behind_brace (suc (depth_of o)) ts >>= λ r. program_reading r (at_block (in_yes o b n g)))
opens_yes ts o b n g = opens ts (after (for_if o b n) (whole_guard g)) (in_yes o b n g) (λ m. refl)
    (λ m. elim [ OpenBrace ↦ λ i h. absurd h | _ ↦ λ i h. refl ]) refl

-- the second block of a choice
pub opens_no : (ts : List Token) (o : Open) (b : Named) (n : ℕ) (g : Guard (List ℕ)) (y : Named)
    → program_reading ts (at_no o b n g y) ≡ (tokens_behind_brace (suc (depth_of o)) ts >>= λ r. program_reading r (at_block (in_no o b n g y)))
opens_no ts o b n g y = opens ts (at_no o b n g y) (in_no o b n g y) (λ m. refl) (λ m. elim [ OpenBrace ↦ λ i h. absurd h | _ ↦ λ i h. refl ]) refl

-- the block of a loop
pub opens_body : (ts : List Token) (o : Open) (b : Named) (n : ℕ) (g : Guard (List ℕ))
    → program_reading ts (after (for_while o b n) (whole_guard g))
    ≡ (tokens_behind_brace (suc (depth_of o)) ts >>= λ r. program_reading r (at_block (in_body o b n g)))
opens_body ts o b n g = opens ts (after (for_while o b n) (whole_guard g)) (in_body o b n g) (λ m. refl)
    (λ m. elim [ OpenBrace ↦ λ i h. absurd h | _ ↦ λ i h. refl ]) refl

no_role : (n : ℕ) (t : TokenKind) (ds : List Declaration) → role_in (Some t) ≡ None → IsNoBrace t → program_step (at_declaration ds) n t ≡ None
no_role n (Declare r) ds e h = absurd cc
no_role n OpenBrace ds e h = absurd h
no_role n _ ds e h = refl

-- the outermost block
pub opens_outermost : (ts : List Token) (ds : List Declaration) → role_at ts ≡ None
    → program_reading ts (at_declaration ds) ≡ (tokens_behind_brace 0 ts >>= λ r. program_reading r (at_block (outermost ds)))
opens_outermost ts ds e = opens ts (at_declaration ds) (outermost ds) (λ m. refl) (λ m t i h. no_role m t ds (rw i at e) h) refl
