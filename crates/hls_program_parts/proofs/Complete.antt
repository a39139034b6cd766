-- What is spelled is read.
use Rattle.std.proofs.Common.{◌≡◌, ℕ, List, [], ◌∷◌, ◌++◌, Option, Some, None, refl, sym, ap, subst, ◌∙◌, append_assoc}
use Rattle.std.proofs.lemmas.List.{append-nil}
use Rattle.fs_model.specs.declared.parts.Role.{Role}
use Rattle.fs_model.specs.declared.parts.Sort.{Sort}
use Rattle.fs_model.specs.Expressions.{Guard, Assignment}
use Rattle.fs_model.specs.Source.{Declaration}
use Rattle.fs_grammar.specs.declared.format.Format.TheVariants.{One}
use Rattle.fs_grammar.specs.declared.token.TokenKind.{TokenKind}
use Rattle.fs_grammar.specs.declared.token.TokenKind.TheVariants.{Else, Declare, Semicolon, Equals, CloseBracket, OpenBrace, CloseBrace}
use Rattle.fs_grammar.specs.declared.token.TokenKind.TheVariants as kinds
use Rattle.fs_grammar.specs.Grammar.{Destination, destination_assignment}
use Rattle.fs_grammar.specs.Spelling.{Word, at, IsGuard, IsDestination, scalar_name, element_at, IsAssignment, assign, IsKind, scalars, arrays}
use Rattle.fs_grammar.specs.Spelling.{IsDeclaration, declaration, AreDeclarations, no_declarations, more_declarations}
use Rattle.fs_grammar.specs.WordWalks.{and_then}
use Rattle.fs_expression_text.specs.Inside.{Inside, Whole, whole_sum, whole_guard, whole_at, at_sum, at_guard, sum_alone, guard_alone}
use Rattle.fs_expression_text.specs.Inside as inner
use Rattle.fs_phrase_text.specs.Expressions.{ExpressionKind, a_sum, a_guard, expression_start, SpellsExpression}
use Rattle.fs_phrase_text.proofs.SoundExpressions.{walk as walk_inside}
use Rattle.fs_phrase_text.proofs.CompleteExpressions.{complete as complete_expression}
use Rattle.fs_phrase_text.specs.Declaring.{Lead}
use Rattle.fs_phrase_text.specs.Declaring as declaring
use Rattle.fs_phrase_text.specs.Declarations.{of_role}
use Rattle.fs_phrase_text.proofs.SoundDeclarations.{walk as walk_declaring}
use Rattle.fs_phrase_text.proofs.CompleteDeclarations.{complete as complete_declaration}
use Rattle.hls_program_parts.specs.Programs.{Block, End, Do, If, While, Program, join_blocks}
use Rattle.hls_program_parts.specs.ProgramGrammar.{Named, Open, outermost, in_yes, in_no, in_body, Hole, for_if, for_while, for_index, for_value}
use Rattle.hls_program_parts.specs.ProgramGrammar.{ProgramParseState, at_prog, at_declaration, in_declaration, at_block, at_statement, inside, after}
use Rattle.hls_program_parts.specs.ProgramGrammar.{after_yes, at_no, at_end, with_declaration, close_block, step_inside, step_declaring, program_step}
use Rattle.hls_program_parts.specs.ProgramSpelling.{first_line, IsStatement, assigns, chooses, chooses_else, repeats, IsBlock, block, AreStatements}
use Rattle.hls_program_parts.specs.ProgramSpelling.{no_statements, more_statements, IsProgram, program}
use Rattle.hls_program_parts.proofs.Walks.{walk}
use Rattle.hls_program_parts.proofs.Closers.{Closes, brace_closes, bracket_closes, semicolon_closes, ends_here}

pub regroup : (a b rest : List Word) (s : ProgramParseState) → walk ((a ++ b) ++ rest) s ≡ walk (a ++ (b ++ rest)) s
regroup a b rest s = ap (λ (l : List Word). walk l s) (append_assoc a b rest)

-- ---- blocks that follow one another

pub joined_end : {X : Type 0} (a : Block X) → join_blocks a End ≡ a
joined_end End = refl
joined_end (Do n x a) = ap (Do n x) (joined_end a)
joined_end (If n g y z a) = ap (If n g y z) (joined_end a)
joined_end (While n g y a) = ap (While n g y) (joined_end a)

pub joined_assoc : {X : Type 0} (a b c : Block X) → join_blocks (join_blocks a b) c ≡ join_blocks a (join_blocks b c)
joined_assoc End b c = refl
joined_assoc (Do n x a) b c = ap (Do n x) (joined_assoc a b c)
joined_assoc (If n g y z a) b c = ap (If n g y z) (joined_assoc a b c)
joined_assoc (While n g y a) b c = ap (While n g y) (joined_assoc a b c)

-- ---- sums and guards

inside_next : (h : Hole) (t : TokenKind) (c rest : List Word) (j : Inside) (o : Option Inside) (w : Option Whole)
    → ((m : Inside) → walk_inside c m ≡ Some j → walk (c ++ rest) (inside h m) ≡ walk rest (inside h j))
    → and_then o (walk_inside c) ≡ Some j → and_then (step_inside o w h t) (walk (c ++ rest)) ≡ walk rest (inside h j)
inside_next h t c rest j None w go e = absurd cc
inside_next h t c rest j (Some m) w go e = go m e

-- words inside lead where they lead by themselves
pub inside_walks : (h : Hole) (c rest : List Word) (i j : Inside) → walk_inside c i ≡ Some j → walk (c ++ rest) (inside h i) ≡ walk rest (inside h j)
inside_walks h [] rest i j e =
    let same : i ≡ j = cc in
    rw same refl
inside_walks h (at n t ∷ c) rest i j e = inside_next h t c rest j (inner.expression_step i t) (whole_at i) (λ m. inside_walks h c rest m j) e

ended_at : (h : Hole) (e : ExpressionKind) (w : Whole) (c rest : List Word) (n : ℕ) (t : TokenKind) → Closes t → (o : Option Inside)
    → walk_inside c (expression_start e) ≡ o → and_then o whole_at ≡ Some w
    → walk (c ++ at n t ∷ rest) (inside h (expression_start e)) ≡ walk (at n t ∷ rest) (after h w)
ended_at h e w c rest n t k None q g = absurd cc
ended_at h e w c rest n t k (Some i) q g = inside_walks h c (at n t ∷ rest) (expression_start e) i q ∙ rw (ends_here t k i w g, g) refl

-- a whole sum or guard leads behind it, where the next word ends it
pub hole_walks : (h : Hole) (e : ExpressionKind) (w : Whole) (c rest : List Word) (n : ℕ) (t : TokenKind) → Closes t → SpellsExpression e w c
    → walk (c ++ at n t ∷ rest) (inside h (expression_start e)) ≡ walk (at n t ∷ rest) (after h w)
hole_walks h e w c rest n t k s = ended_at h e w c rest n t k (walk_inside c (expression_start e)) refl (complete_expression e w c s)

-- ---- assignments

pub destination_line : (d : Destination) (a : List Word) → IsDestination d a → (rest : List Word) → first_line (a ++ rest) ≡ first_line a
destination_line _ _ (scalar_name n x) rest = refl
destination_line _ _ (element_at n m k x p) rest = refl

destination_walks : (d : Destination) (a : List Word) → IsDestination d a → (o : Open) (b : Named) (m : ℕ) (rest : List Word)
    → walk (a ++ at m Equals ∷ rest) (at_statement o b) ≡ walk rest (inside (for_value o b (first_line a) d) (at_sum sum_alone))
destination_walks _ _ (scalar_name n x) o b m rest = refl
destination_walks _ _ (element_at n i k x {s} {a} p) o b m rest =
    regroup a (at k CloseBracket ∷ []) (at m Equals ∷ rest) (inside (for_index o b n x) (at_sum sum_alone))
    ∙ hole_walks (for_index o b n x) a_sum (whole_sum s) a (at m Equals ∷ rest) k CloseBracket bracket_closes p

assignment_walks : (x : Assignment (List ℕ)) (a : List Word) → IsAssignment One x a → (o : Open) (b : Named) (m : ℕ) (rest : List Word)
    → walk (a ++ at m Semicolon ∷ rest) (at_statement o b) ≡ walk rest (at_statement o (join_blocks b (Do (first_line a) x End)))
assignment_walks _ _ (assign _ n {d} {e} {a} {b = c} p q) o b m rest =
    regroup a (at n Equals ∷ c) (at m Semicolon ∷ rest) (at_statement o b)
    ∙ destination_walks d a p o b n (c ++ at m Semicolon ∷ rest)
    ∙ hole_walks (for_value o b (first_line a) d) a_sum (whole_sum e) c rest m Semicolon semicolon_closes q
    ∙ ap (λ (k : ℕ). walk rest (at_statement o (join_blocks b (Do k (destination_assignment d e) End)))) (sym (destination_line d a p (at n Equals ∷ c)))

-- ---- statements and blocks

-- words of which the first is not `else`
abbrev pub GoesOn : List Word → Type 0
GoesOn [] = ⊥
GoesOn (at n Else ∷ ws) = ⊥
GoesOn (at n t ∷ ws) = Unit {0}

assignment_first : (x : Assignment (List ℕ)) (a : List Word) → IsAssignment One x a → (rest : List Word) → GoesOn (a ++ rest)
assignment_first _ _ (assign _ n (scalar_name m x) q) rest = tt
assignment_first _ _ (assign _ n (element_at m i k x p) q) rest = tt

pub statement_first : (s : Block (List ℕ)) (a : List Word) → IsStatement s a → (rest : List Word) → GoesOn (a ++ rest)
statement_first _ _ (assigns m {x} {a} p) rest = subst GoesOn (sym (append_assoc a (at m Semicolon ∷ []) rest)) (assignment_first x a p (at m Semicolon ∷ rest))
statement_first _ _ (chooses n p q) rest = tt
statement_first _ _ (chooses_else n m p q r) rest = tt
statement_first _ _ (repeats n p q) rest = tt

-- a choice without `else` ends where the next word is another
pub no_else : (rest : List Word) → GoesOn rest → (o : Open) (b : Named) (n : ℕ) (g : Guard (List ℕ)) (y : Named)
    → walk rest (after_yes o b n g y) ≡ walk rest (at_statement o (join_blocks b (If n g y End End)))
no_else [] h o b n g y = absurd h
no_else (at m Else ∷ ws) h o b n g y = absurd h
no_else (at m t ∷ ws) h o b n g y = refl

-- a block begins as its first statement does, or with the brace that closes it
pub block_begins : (c rest : List Word) → GoesOn rest → (o : Open) → walk (c ++ rest) (at_block o) ≡ walk (c ++ rest) (at_statement o End)
block_begins [] [] h o = absurd h
block_begins [] (at m u ∷ rest) h o = refl
block_begins (at m u ∷ c) rest h o = refl

-- a guard leads behind it, where a block follows
pub guard_walks : (h : Hole) (g : Guard (List ℕ)) (a : List Word) → IsGuard g a → (y : Named) (b : List Word) → IsBlock y b → (rest : List Word)
    → walk (a ++ (b ++ rest)) (inside h (at_guard guard_alone)) ≡ walk (b ++ rest) (after h (whole_guard g))
guard_walks h g a p _ _ (block n m {a = c} q) rest = hole_walks h a_guard (whole_guard g) a ((c ++ at m CloseBrace ∷ []) ++ rest) n OpenBrace brace_closes p

mutual
  statement_walks : (s : Block (List ℕ)) (a : List Word) → IsStatement s a → (o : Open) (b : Named) (rest : List Word) → GoesOn rest
      → walk (a ++ rest) (at_statement o b) ≡ walk rest (at_statement o (join_blocks b s))
  statement_walks _ _ (assigns m {x} {a} p) o b rest h = regroup a (at m Semicolon ∷ []) rest (at_statement o b) ∙ assignment_walks x a p o b m rest
  statement_walks _ _ (chooses n {g} {y} {a} {b = c} p q) o b rest h =
      regroup a c rest (inside (for_if o b n) (at_guard guard_alone)) ∙ guard_walks (for_if o b n) g a p y c q rest
      ∙ block_walks y c q (in_yes o b n g) (after (for_if o b n) (whole_guard g)) (λ k. refl) rest ∙ no_else rest h o b n g y
  statement_walks _ _ (chooses_else n m {g} {y} {z} {a} {b = c} {c = d} p q r) o b rest h =
      regroup a (c ++ (at m Else ∷ d)) rest (inside (for_if o b n) (at_guard guard_alone))
      ∙ ap (λ (l : List Word). walk (a ++ l) (inside (for_if o b n) (at_guard guard_alone))) (append_assoc c (at m Else ∷ d) rest)
      ∙ guard_walks (for_if o b n) g a p y c q (at m Else ∷ (d ++ rest))
      ∙ block_walks y c q (in_yes o b n g) (after (for_if o b n) (whole_guard g)) (λ k. refl) (at m Else ∷ (d ++ rest))
      ∙ block_walks z d r (in_no o b n g y) (at_no o b n g y) (λ k. refl) rest
  statement_walks _ _ (repeats n {g} {y} {a} {b = c} p q) o b rest h =
      regroup a c rest (inside (for_while o b n) (at_guard guard_alone)) ∙ guard_walks (for_while o b n) g a p y c q rest
      ∙ block_walks y c q (in_body o b n g) (after (for_while o b n) (whole_guard g)) (λ k. refl) rest

  pub block_walks : (s : Block (List ℕ)) (a : List Word) → IsBlock s a → (o : Open) (r : ProgramParseState)
      → ((k : ℕ) → program_step r k OpenBrace ≡ Some (at_block o)) → (rest : List Word) → walk (a ++ rest) r ≡ walk rest (close_block o s)
  block_walks _ _ (block n m {b = s} {a} p) o r e rest =
      ap (λ (x : Option ProgramParseState). and_then x (walk ((a ++ at m CloseBrace ∷ []) ++ rest))) (e n)
      ∙ regroup a (at m CloseBrace ∷ []) rest (at_block o) ∙ block_begins a (at m CloseBrace ∷ rest) tt o
      ∙ statements_walk s a p o End (at m CloseBrace ∷ rest) tt

  pub statements_walk : (s : Block (List ℕ)) (a : List Word) → AreStatements s a → (o : Open) (b : Named) (rest : List Word) → GoesOn rest
      → walk (a ++ rest) (at_statement o b) ≡ walk rest (at_statement o (join_blocks b s))
  statements_walk _ _ no_statements o b rest h = ap (λ (x : Named). walk rest (at_statement o x)) (sym (joined_end b))
  statements_walk _ _ (more_statements {b = s} {s = x} {a} {c} p q) o b rest h =
      regroup a c rest (at_statement o b) ∙ statements_walk s a p o b (c ++ rest) (statement_first x c q rest)
      ∙ statement_walks x c q o (join_blocks b s) rest h
      ∙ ap (λ (y : Named). walk rest (at_statement o y)) (joined_assoc b s x)

-- ---- declarations

-- the parse state inside a declaration or behind it
abbrev pub placed : List Declaration → Lead → ProgramParseState
placed ds (declaring.inside s) = in_declaration ds s
placed ds (declaring.whole d) = at_declaration (with_declaration ds d)

declared_next : (ds : List Declaration) (c rest : List Word) (r : Lead) (o : Option Lead)
    → ((l : Lead) → walk_declaring c l ≡ Some r → walk (c ++ rest) (placed ds l) ≡ walk rest (placed ds r))
    → and_then o (walk_declaring c) ≡ Some r → and_then (step_declaring o ds) (walk (c ++ rest)) ≡ walk rest (placed ds r)
declared_next ds c rest r None go e = absurd cc
declared_next ds c rest r (Some (declaring.inside s)) go e = go (declaring.inside s) e
declared_next ds c rest r (Some (declaring.whole d)) go e = go (declaring.whole d) e

declared_walks : (ds : List Declaration) (c rest : List Word) (l r : Lead) → walk_declaring c l ≡ Some r
    → walk (c ++ rest) (placed ds l) ≡ walk rest (placed ds r)
declared_walks ds [] rest l r e =
    let same : l ≡ r = cc in
    rw same refl
declared_walks ds (at n t ∷ c) rest (declaring.inside s) r e = declared_next ds c rest r (declaring.declaration_step s t) (λ m. declared_walks ds c rest m r) e
declared_walks ds (at n t ∷ c) rest (declaring.whole d) r e = absurd cc

-- A declaration by its first word.
pub record Opens (d : Declaration) (a : List Word) : Type 0 where
  pub line : ℕ
  pub role : Role
  pub others : List Word
  pub is : a ≡ at line (Declare role) ∷ others
  pub spelled : IsDeclaration One d (at line (Declare role) ∷ others)

opens_by : (d : Declaration) (n : ℕ) (r : Role) (v c : List Word) → IsDeclaration One d ((at n (Declare r) ∷ v) ++ c) → Opens d ((at n (Declare r) ∷ v) ++ c)
opens_by d n r v c h = record { line = n; role = r; others = v ++ c; is = refl; spelled = h }

kind_opens : (n : ℕ) (r : Role) (s : Sort) (a : List Word) → IsKind One n r s a → (d : Declaration) (b : List Word) → IsDeclaration One d (a ++ b)
    → Opens d (a ++ b)
kind_opens _ _ _ _ (scalars f n r) d b h = opens_by d n r [] b h
kind_opens _ _ _ _ (arrays f n m r) d b h = opens_by d n r (at m kinds.Array ∷ []) b h

pub declaration_opens : (d : Declaration) (a : List Word) → IsDeclaration One d a → Opens d a
declaration_opens _ _ (declaration _ n m r s xs {a} {b} p q) =
    kind_opens n r s a p (record { line = n; role = r; sort = s; names = xs }) (b ++ at m Semicolon ∷ []) (declaration One n m r s xs p q)

declaration_walks : (ds : List Declaration) (d : Declaration) (a : List Word) → Opens d a → (rest : List Word)
    → walk (a ++ rest) (at_declaration ds) ≡ walk rest (at_declaration (with_declaration ds d))
declaration_walks ds d a h rest =
    ap (λ (l : List Word). walk (l ++ rest) (at_declaration ds)) h.is
    ∙ declared_walks ds h.others rest (declaring.inside (declaring.at_sort h.line h.role)) (declaring.whole d)
    (complete_declaration One (of_role h.line h.role) d h.others h.spelled)

pub declarations_walk : (ds : List Declaration) (a : List Word) → AreDeclarations One ds a → (rest : List Word)
    → walk (a ++ rest) (at_declaration []) ≡ walk rest (at_declaration ds)
declarations_walk _ _ (no_declarations _) rest = refl
declarations_walk _ _ (more_declarations _ {ds} {d} {a} {b} p q) rest =
    regroup a b rest (at_declaration []) ∙ declarations_walk ds a p (b ++ rest) ∙ declaration_walks ds d b (declaration_opens d b q) rest

-- Words that spell a program lead to its end.
pub complete : (p : Program) (ws : List Word) → IsProgram p ws → walk ws at_prog ≡ Some (at_end p)
complete _ _ (program n m {ds} {b} {a} {c} h q) =
    declarations_walk ds a h c ∙ ap (λ (l : List Word). walk l (at_declaration ds)) (sym (append-nil c))
    ∙ block_walks b c q (outermost ds) (at_declaration ds) (λ k. refl) []
