-- The words that lead somewhere are those that begin a program.
use Rattle.std.proofs.Common.{◌≡◌, ℕ, List, [], ◌∷◌, ◌++◌, Some, None, refl, sym, ap, subst, ◌∙◌, append_assoc}
use Rattle.std.specs.Prelude.{pos}
use Rattle.std.proofs.lemmas.List.{append-nil}
use Rattle.fs_model.specs.Expressions.{Assignment}
use Rattle.fs_model.specs.Expressions as expressions
use Rattle.fs_model.specs.Source.{Declaration}
use Rattle.fs_grammar.specs.declared.format.Format.TheVariants.{One}
use Rattle.fs_grammar.specs.declared.token.TokenKind.TheVariants.{Prog, If as IfWord, While as WhileWord, Declare, Name, Number, Semicolon, Equals, OpenBracket}
use Rattle.fs_grammar.specs.declared.token.TokenKind.TheVariants.{CloseBracket, OpenBrace, CloseBrace}
use Rattle.fs_grammar.specs.Grammar.{Destination, scalar, element, destination_assignment}
use Rattle.fs_grammar.specs.Spelling.{Word, at, number, factor, product, IsSum, IsDestination, scalar_name, element_at, IsAssignment, assign}
use Rattle.fs_grammar.specs.Spelling.{no_declarations, more_declarations}
use Rattle.fs_grammar.specs.Beginnings as rules
use Rattle.fs_grammar.proofs.Reached.{Cut}
use Rattle.fs_grammar.proofs.Alternatives.{completed}
use Rattle.fs_phrase_text.specs.Expressions.{rule_of}
use Rattle.fs_phrase_text.proofs.Beginning.{leads as expression_begins}
use Rattle.fs_phrase_text.specs.Declaring.{Declaring}
use Rattle.fs_phrase_text.specs.Declaring as declaring
use Rattle.fs_phrase_text.specs.Declarations.{of_role}
use Rattle.fs_phrase_text.proofs.SoundDeclarations.{leads as declaration_begins}
use Rattle.hls_program_parts.specs.Programs.{End, Do, If, While, Program, join_blocks}
use Rattle.hls_program_parts.specs.ProgramGrammar.{Named, Open, outermost, in_yes, in_no, in_body, Hole, for_if, for_while, for_index, for_value}
use Rattle.hls_program_parts.specs.ProgramGrammar.{ProgramParseState, at_prog, after_prog, at_declaration, in_declaration, at_block, at_statement, after_name}
use Rattle.hls_program_parts.specs.ProgramGrammar.{at_equals, inside, after, after_yes, at_no, at_end, with_declaration}
use Rattle.hls_program_parts.specs.ProgramSpelling.{first_line, IsStatement, assigns, chooses, repeats, IsBlock, block, no_statements, IsProgram, program}
use Rattle.hls_program_parts.specs.ProgramBeginnings.{BeginsProgram}
use Rattle.hls_program_parts.proofs.Walks.{walk, walk_append}
use Rattle.hls_program_parts.proofs.Complete.{complete}
use Rattle.hls_program_parts.proofs.Reached.{IsHead, IsWithin, kind_of_hole, BeforeHole, LeadsDeclaring, Reached}
use Rattle.hls_program_parts.proofs.Sound.{behind_word, within_more, choice_within, block_closed, opened_within, keeps, reached}

pub front : (a b : List Word) → BeginsProgram (a ++ b) → BeginsProgram a
front a b h = record { more = b ++ h.more; whole = h.whole; spelled = subst (λ (l : List Word). IsProgram h.whole l) (append_assoc a b h.more) h.spelled }

-- words of which some longer ones begin a program
front_as : (a b ws : List Word) → ws ≡ a ++ b → BeginsProgram ws → BeginsProgram a
front_as a b ws e h = front a b (subst BeginsProgram e h)

pub whole_begins : (p : Program) (ws : List Word) → IsProgram p ws → BeginsProgram ws
whole_begins p ws h = record { more = []; whole = p; spelled = subst (λ (l : List Word). IsProgram p l) (sym (append-nil ws)) h }

-- ---- open blocks

-- each open block can be closed
pub closing : (o : Open) (b : Named) (ws : List Word) → IsWithin o b ws → BeginsProgram ws
closing (outermost ds) b ws h = front ws (at 0 CloseBrace ∷ [])
    (whole_begins (record { declarations = ds; body = b }) (ws ++ at 0 CloseBrace ∷ []) (block_closed 0 (outermost ds) b ws h))
closing (in_yes o d n g) b ws h =
    front ws (at 0 CloseBrace ∷ [])
    (closing o (join_blocks d (If n g b End End)) (ws ++ at 0 CloseBrace ∷ [])
    (choice_within o d n g b (ws ++ at 0 CloseBrace ∷ []) (block_closed 0 (in_yes o d n g) b ws h)))
closing (in_no o d n g y) b ws h = front ws (at 0 CloseBrace ∷ [])
    (closing o (join_blocks d (If n g y b End)) (ws ++ at 0 CloseBrace ∷ []) (block_closed 0 (in_no o d n g y) b ws h))
closing (in_body o d n g) b ws h = front ws (at 0 CloseBrace ∷ [])
    (closing o (join_blocks d (While n g b End)) (ws ++ at 0 CloseBrace ∷ []) (block_closed 0 (in_body o d n g) b ws h))

-- with a statement that can be made whole
stated : (o : Open) (b : Named) (a : List Word) → IsWithin o b a → (s : Named) (v m : List Word) → IsStatement s (v ++ m) → (ws : List Word) → ws ≡ a ++ v
    → BeginsProgram ws
stated o b a h s v m p ws e =
    let all : ws ++ m ≡ a ++ (v ++ m) = ap (λ (l : List Word). l ++ m) e ∙ append_assoc a v m in
    front ws m (closing o (join_blocks b s) (ws ++ m) (within_more o b a h s (v ++ m) p (ws ++ m) all))

-- an empty block
abbrev empty : List Word
empty = at 0 OpenBrace ∷ at 0 CloseBrace ∷ []

empty_block : IsBlock End empty
empty_block = block 0 0 no_statements

-- the sum 0
zero_sum : IsSum (expressions.Number (pos 0)) (at 0 (Number (pos 0)) ∷ [])
zero_sum = product (factor (number 0 (pos 0)))

-- ---- what can be made whole

chosen : (o : Open) (b : Named) (a : List Word) → IsWithin o b a → (n : ℕ) (c m : List Word) → rules.SpellsWhole rules.guard (c ++ m) → (ws : List Word)
    → ws ≡ a ++ (at n IfWord ∷ c) → BeginsProgram ws
chosen o b a h n c m s ws e =
    stated o b a h (If n s.0 End End End) (at n IfWord ∷ c) (m ++ empty)
    (subst (λ (l : List Word). IsStatement (If n s.0 End End End) (at n IfWord ∷ l)) (append_assoc c m empty) (chooses n s.1 empty_block)) ws e

repeated : (o : Open) (b : Named) (a : List Word) → IsWithin o b a → (n : ℕ) (c m : List Word) → rules.SpellsWhole rules.guard (c ++ m) → (ws : List Word)
    → ws ≡ a ++ (at n WhileWord ∷ c) → BeginsProgram ws
repeated o b a h n c m s ws e =
    stated o b a h (While n s.0 End End) (at n WhileWord ∷ c) (m ++ empty)
    (subst (λ (l : List Word). IsStatement (While n s.0 End End) (at n WhileWord ∷ l)) (append_assoc c m empty) (repeats n s.1 empty_block)) ws e

-- an assignment of which a part is to come
assigned_begins : (o : Open) (b : Named) (a : List Word) → IsWithin o b a → (x : Assignment (List ℕ)) (u : List Word) → IsAssignment One x u → (v m : List Word)
    → u ++ at 0 Semicolon ∷ [] ≡ v ++ m → (ws : List Word) → ws ≡ a ++ v → BeginsProgram ws
assigned_begins o b a h x u p v m q ws e = stated o b a h (Do (first_line u) x End) v m
    (subst (λ (l : List Word). IsStatement (Do (first_line u) x End) l) q (assigns 0 p)) ws e

placed_begins : (o : Open) (b : Named) (a : List Word) → IsWithin o b a → (d : Destination) (c : List Word) → IsDestination d c → (ws : List Word) → ws ≡ a ++ c
    → BeginsProgram ws
placed_begins o b a h d c p ws e =
    assigned_begins o b a h (destination_assignment d (expressions.Number (pos 0))) (c ++ (at 0 Equals ∷ at 0 (Number (pos 0)) ∷ []))
    (assign One 0 p zero_sum) c (at 0 Equals ∷ at 0 (Number (pos 0)) ∷ at 0 Semicolon ∷ [])
    (append_assoc c (at 0 Equals ∷ at 0 (Number (pos 0)) ∷ []) (at 0 Semicolon ∷ [])) ws e

valued : (o : Open) (b : Named) (a : List Word) → IsWithin o b a → (d : Destination) (v : List Word) → IsDestination d v → (n : ℕ) (c m : List Word)
    → rules.SpellsWhole rules.sum (c ++ m) → (ws : List Word) → ws ≡ a ++ (v ++ (at n Equals ∷ c)) → BeginsProgram ws
valued o b a h d v p n c m s ws e =
    assigned_begins o b a h (destination_assignment d s.0) (v ++ (at n Equals ∷ (c ++ m))) (assign One n p s.1) (v ++ (at n Equals ∷ c))
    (m ++ at 0 Semicolon ∷ []) (simp append_assoc) ws e

indexed : (o : Open) (b : Named) (a : List Word) → IsWithin o b a → (n k : ℕ) (x : List ℕ) (c m : List Word) → rules.SpellsWhole rules.sum (c ++ m)
    → (ws : List Word) → ws ≡ a ++ (at n (Name x) ∷ at k OpenBracket ∷ c) → BeginsProgram ws
indexed o b a h n k x c m s ws e =
    let d : List Word = at n (Name x) ∷ at k OpenBracket ∷ ((c ++ m) ++ at 0 CloseBracket ∷ []) in
    let all : a ++ d ≡ ws ++ (m ++ at 0 CloseBracket ∷ []) = rw e (simp append_assoc) in
    front_as ws (m ++ at 0 CloseBracket ∷ []) (a ++ d) all (placed_begins o b a h (element x s.0) d (element_at n k 0 x s.1) (a ++ d) refl)

hole_begins : (h : Hole) (v c m ws : List Word) → BeforeHole h v → rules.SpellsWhole (rule_of (kind_of_hole h)) (c ++ m) → ws ≡ v ++ c → BeginsProgram ws
hole_begins (for_if o b n) v c m ws f s e = chosen o b f.a f.front n c m s ws (behind_word (at n IfWord) v c ws f e)
hole_begins (for_while o b n) v c m ws f s e = repeated o b f.a f.front n c m s ws (behind_word (at n WhileWord) v c ws f e)
hole_begins (for_index o b n x) v c m ws f s e = indexed o b f.a f.front n f.back.n x c m s ws (rw (e, f.is, f.back.is, f.back.front) (simp append_assoc))
hole_begins (for_value o b n d) v c m ws f s e = valued o b f.a f.front d f.back.a f.back.front.spelled f.back.n c m s ws
    (rw (e, f.is, f.back.is) (simp append_assoc))

-- the rest of a declaration
head_begins : (ds : List Declaration) (ws : List Word) → IsHead ds ws → BeginsProgram ws
head_begins ds ws h = front ws (at 0 OpenBrace ∷ [])
    (closing (outermost ds) End (ws ++ at 0 OpenBrace ∷ [])
    (opened_within (outermost ds) (ws ++ at 0 OpenBrace ∷ []) (keeps (at_declaration ds) 0 OpenBrace ws h)))

declaring_begins : (ds : List Declaration) (s : Declaring) (ws : List Word) → Cut (IsHead ds) (LeadsDeclaring s) ws → BeginsProgram ws
declaring_begins ds s ws h =
    let first = at h.back.line (Declare h.back.role) in
    let m = completed (rules.declaration One) (first ∷ h.back.others)
    (declaration_begins One (of_role h.back.line h.back.role) h.back.others (declaring.inside s) tt h.back.leads) in
    front ws m.0 (head_begins (with_declaration ds m.1.0) (ws ++ m.0) (record {
      n = h.front.n;
      m = h.front.m;
      a = h.front.a ++ (first ∷ (h.back.others ++ m.0));
      declarations = more_declarations One h.front.declarations m.1.1;
      is = ap (λ (l : List Word). l ++ m.0) h.is ∙ append_assoc h.a h.b m.0 ∙ ap (λ (l : List Word). l ++ (h.b ++ m.0)) h.front.is
          ∙ ap (λ (l : List Word). at h.front.n Prog ∷ at h.front.m Semicolon ∷ (h.front.a ++ (l ++ m.0))) h.back.is;
    }))

nothing_begins : BeginsProgram []
nothing_begins = record {
  more = at 0 Prog ∷ at 0 Semicolon ∷ empty;
  whole = record { declarations = []; body = End };
  spelled = program 0 0 (no_declarations One) empty_block;
}

begins : (s : ProgramParseState) (ws : List Word) → Reached s ws → BeginsProgram ws
begins at_prog ws h = subst BeginsProgram (sym h) nothing_begins
begins after_prog ws h = front ws (at 0 Semicolon ∷ []) (head_begins [] (ws ++ at 0 Semicolon ∷ []) (keeps after_prog 0 Semicolon ws h))
begins (at_declaration ds) ws h = head_begins ds ws h
begins (in_declaration ds s) ws h = declaring_begins ds s ws h
begins (at_block o) ws h = closing o End ws (opened_within o ws h)
begins (at_statement o b) ws h = closing o b ws h
begins (after_name o b n x) ws h = placed_begins o b h.a h.front (scalar x) h.b
    (subst (λ (l : List Word). IsDestination (scalar x) l) (sym h.back) (scalar_name n x)) ws h.is
begins (at_equals o b n d) ws h = placed_begins o b h.a h.front d h.b h.back.spelled ws h.is
begins (inside h i) ws k =
    let m = completed (rule_of (kind_of_hole h)) k.b (expression_begins (kind_of_hole h) k.b i k.back) in
    hole_begins h k.a k.b m.0 ws k.front m.1 k.is
begins (after h w) ws k = absurd k
begins (after_yes o b n g y) ws h = closing o (join_blocks b (If n g y End End)) ws (choice_within o b n g y ws h)
begins (at_no o b n g y) ws h =
    front ws (at 0 OpenBrace ∷ [])
    (closing (in_no o b n g y) End (ws ++ at 0 OpenBrace ∷ [])
    (opened_within (in_no o b n g y) (ws ++ at 0 OpenBrace ∷ []) (keeps (at_no o b n g y) 0 OpenBrace ws h)))
begins (at_end p) ws h = whole_begins p ws h

-- Words that lead somewhere begin a program.
pub leads : (ws : List Word) (s : ProgramParseState) → walk ws at_prog ≡ Some s → BeginsProgram ws
leads ws s e = begins s ws (reached ws s e)

-- Words before which the reading sticks begin none.
pub stuck : (ws : List Word) → walk ws at_prog ≡ None → BeginsProgram ws → ⊥
stuck ws e b =
    let ends : walk (ws ++ b.more) at_prog ≡ Some (at_end b.whole) = complete b.whole (ws ++ b.more) b.spelled in
    let none : walk (ws ++ b.more) at_prog ≡ None = walk_append ws b.more at_prog ∙ rw e refl in
    cc
