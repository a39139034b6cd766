-- What is spelled within the limits is well formed.
use Rattle.std.proofs.Common.{◌≡◌, ℕ, suc, ◌+◌, ◌-◌, ◌≤◌, ◌<◌, List, [], ◌∷◌, ◌++◌, refl, sym, ap, subst, ◌∙◌, append_assoc, length, length-append, arith}
use Rattle.std.specs.Prelude.{Bool, true, false, not, ◌&&◌, ◌||◌, ◌==◌, nat_le, nat_lt, int_lt, pos, cond, Some, None, IsTrue, codes}
use Rattle.std.specs.List.{list_all, AllByRecursion}
use Rattle.std.specs.Str.{bytes_eq}
use Rattle.std.proofs.lemmas.Bool.{ltb-true, ltb-false, le-leb, and_from}
use Rattle.std.proofs.lemmas.List.{append-nil}
use Rattle.std.proofs.lemmas.List.Folds.{list_all-append}
use Rattle.fs_model.specs.declared.parts.Role.{Role}
use Rattle.fs_model.specs.declared.parts.Sort.{Sort}
use Rattle.fs_model.specs.Expressions.{Expression, Guard, Assignment}
use Rattle.fs_model.specs.Source.{Declaration}
use Rattle.fs_model.specs.Limits.{most_operators}
use Rattle.fs_model.specs.WellFormed.{operators_of_guard, operators_of_assignment}
use Rattle.fs_grammar.specs.declared.format.Format.TheVariants.{One}
use Rattle.fs_grammar.specs.declared.token.TokenKind.{TokenKind}
use Rattle.fs_grammar.specs.declared.token.TokenKind.TheVariants.{Prog, If as IfWord, Else, While as WhileWord, Name, Number, Comma, Semicolon, Equals}
use Rattle.fs_grammar.specs.declared.token.TokenKind.TheVariants.{CloseParen, CloseBracket, OpenBrace, CloseBrace, Plus, Minus, Star, Slash, Percent, AndAnd}
use Rattle.fs_grammar.specs.declared.token.TokenKind.TheVariants.{OrOr, Relation}
use Rattle.fs_grammar.specs.declared.token.Token.{Token}
use Rattle.fs_grammar.specs.Spelling as grammar
use Rattle.fs_grammar.specs.Spelling.{Word, at, IsFactor, IsProduct, IsSum, IsUnit, IsConjunction, IsGuard, IsAssignment, AreNames, IsKind, IsDeclaration}
use Rattle.fs_grammar.specs.Spelling.{AreDeclarations}
use Rattle.fs_grammar.specs.WordWalks.{words}
use Rattle.fs_grammar.proofs.Inside.{front}
use Rattle.fs_lex.specs.Scan.{operators_up_to_token as counted_by_scan, tokens_of}
use Rattle.fs_lex.specs.Kinds.{IsProper}
use Rattle.fs_lex.proofs.Counted.{AreCounted, tokens_counted}
use Rattle.hls_program_parts.specs.Programs.{Block, End, Do, If, While, Program}
use Rattle.hls_program_parts.specs.WellFormedPrograms.{most_depth, is_free, is_program_expression, has_program_expressions, assigns_program_expressions}
use Rattle.hls_program_parts.specs.WellFormedPrograms.{is_program_guard}
use Rattle.hls_program_parts.specs.WellFormedPrograms.{is_program_assignment, is_program_declaration, depth, is_well_formed_program}
use Rattle.hls_program_parts.proofs.Fits.{fits, fits_joined, fits_if, fits_while}
use Rattle.hls_program_parts.specs.ProgramKeywords.{word_or_name, program_kind}
use Rattle.hls_program_parts.specs.Marks.{opens_relation, operators_up_to, mark_tokens, program_tokens}
use Rattle.hls_program_parts.specs.ProgramSpelling.{first_line, IsStatement, assigns, chooses, chooses_else, repeats, IsBlock, block, AreStatements}
use Rattle.hls_program_parts.specs.ProgramSpelling.{no_statements, more_statements, IsProgram, program}
use Rattle.hls_program_parts.specs.ProgramBeginnings.{OpensBlock, outermost, yes_block, no_block, body, IsInBlock, opened, IsInProgramExpression, in_choice}
use Rattle.hls_program_parts.specs.ProgramBeginnings.{in_repetition, in_assignment}
use Rattle.hls_program_parts.specs.ProgramLimits.{word_operator_count, KeepLimits, TokensSpellProgram}
use Rattle.hls_program_parts.specs.ProgramTexts.{TextSpellsProgram}
use Rattle.hls_program_parts.proofs.OperatorCounts.{guard_counts, assignment_counts, Split, split}
use Rattle.hls_program_parts.proofs.Exact.{read_spelled}
use Rattle.hls_program_parts.proofs.Texts.{marks, reads}

-- ---- the words of a program

-- no word of programs as a name, and no negative number
abbrev IsFit : TokenKind → Type 0
IsFit (Name x) = IsTrue (is_free x)
IsFit (Number n) = IsTrue (not (int_lt n (pos 0)))
IsFit _ = Unit {0}

abbrev IsFitWord : Word → Type 0
IsFitWord (at n t) = IsFit t

abbrev AreFit : List Word → Type 0
AreFit ws = AllByRecursion IsFitWord ws

back : (a b : List Word) → AreFit (a ++ b) → AreFit b
back [] b h = h
back (w ∷ a) b h = back a b h.1

mutual
  factor_expressions : (f : Expression (List ℕ)) (a : List Word) → IsFactor f a → AreFit a → IsTrue (is_program_expression f)
  factor_expressions _ _ (grammar.number n i) h = h.0
  factor_expressions _ _ (grammar.variable n x) h = h.0
  factor_expressions _ _ (grammar.read n m k x {s} {a} d) h = and_from (is_free x) (is_program_expression s) h.0
      (sum_expressions s a d (front IsFitWord a (at k CloseBracket ∷ []) h.1.1))
  factor_expressions _ _ (grammar.negative n {f} {a} d) h = factor_expressions f a d h.1
  factor_expressions _ _ (grammar.group n m {s} {a} d) h = sum_expressions s a d (front IsFitWord a (at m CloseParen ∷ []) h.1)

  product_expressions : (p : Expression (List ℕ)) (a : List Word) → IsProduct p a → AreFit a → IsTrue (is_program_expression p)
  product_expressions _ _ (grammar.factor {f} {a} d) h = factor_expressions f a d h
  product_expressions _ _ (grammar.times n {p} {f} {a} {b} d e) h = and_from (is_program_expression p) (is_program_expression f)
      (product_expressions p a d (front IsFitWord a (at n Star ∷ b) h)) (factor_expressions f b e (back a (at n Star ∷ b) h).1)
  product_expressions _ _ (grammar.divides n {p} {f} {a} {b} d e) h =
      and_from (is_program_expression p) (is_program_expression f) (product_expressions p a d (front IsFitWord a (at n Slash ∷ b) h))
      (factor_expressions f b e (back a (at n Slash ∷ b) h).1)
  product_expressions _ _ (grammar.remainder_of n {p} {f} {a} {b} d e) h =
      and_from (is_program_expression p) (is_program_expression f) (product_expressions p a d (front IsFitWord a (at n Percent ∷ b) h))
      (factor_expressions f b e (back a (at n Percent ∷ b) h).1)

  sum_expressions : (s : Expression (List ℕ)) (a : List Word) → IsSum s a → AreFit a → IsTrue (is_program_expression s)
  sum_expressions _ _ (grammar.product {p} {a} d) h = product_expressions p a d h
  sum_expressions _ _ (grammar.plus n {s} {p} {a} {b} d e) h = and_from (is_program_expression s) (is_program_expression p)
      (sum_expressions s a d (front IsFitWord a (at n Plus ∷ b) h)) (product_expressions p b e (back a (at n Plus ∷ b) h).1)
  sum_expressions _ _ (grammar.minus n {s} {p} {a} {b} d e) h = and_from (is_program_expression s) (is_program_expression p)
      (sum_expressions s a d (front IsFitWord a (at n Minus ∷ b) h)) (product_expressions p b e (back a (at n Minus ∷ b) h).1)

mutual
  unit_expressions : (u : Guard (List ℕ)) (a : List Word) → IsUnit u a → AreFit a → IsTrue (has_program_expressions u)
  unit_expressions _ _ (grammar.not n {u} {a} d) h = unit_expressions u a d h.1
  unit_expressions _ _ (grammar.braces n m {g} {a} d) h = guard_expressions g a d (front IsFitWord a (at m CloseBrace ∷ []) h.1)
  unit_expressions _ _ (grammar.literal n r {l} {s} {a} {b} d e) h =
      and_from (is_program_expression l) (is_program_expression s) (sum_expressions l a d (front IsFitWord a (at n (Relation r) ∷ b) h))
      (sum_expressions s b e (back a (at n (Relation r) ∷ b) h).1)

  conjunction_expressions : (c : Guard (List ℕ)) (a : List Word) → IsConjunction c a → AreFit a → IsTrue (has_program_expressions c)
  conjunction_expressions _ _ (grammar.unit {u} {a} d) h = unit_expressions u a d h
  conjunction_expressions _ _ (grammar.and n {c} {u} {a} {b} d e) h =
      and_from (has_program_expressions c) (has_program_expressions u) (conjunction_expressions c a d (front IsFitWord a (at n AndAnd ∷ b) h))
      (unit_expressions u b e (back a (at n AndAnd ∷ b) h).1)

  guard_expressions : (g : Guard (List ℕ)) (a : List Word) → IsGuard g a → AreFit a → IsTrue (has_program_expressions g)
  guard_expressions _ _ (grammar.conjunction {c} {a} d) h = conjunction_expressions c a d h
  guard_expressions _ _ (grammar.or n {g} {c} {a} {b} d e) h = and_from (has_program_expressions g) (has_program_expressions c)
      (guard_expressions g a d (front IsFitWord a (at n OrOr ∷ b) h)) (conjunction_expressions c b e (back a (at n OrOr ∷ b) h).1)

assignment_expressions : (x : Assignment (List ℕ)) (a : List Word) → IsAssignment One x a → AreFit a → IsTrue (assigns_program_expressions x)
assignment_expressions _ _ (grammar.assign _ n {e} {b} (grammar.scalar_name m x) q) h =
    and_from (is_free x) (is_program_expression e) h.0 (sum_expressions e b q h.1.1)
assignment_expressions _ _ (grammar.assign _ n {e} {b} (grammar.element_at m j k x {s} {a} p) q) h =
    let i : AreFit (a ++ at k CloseBracket ∷ []) = front IsFitWord (a ++ at k CloseBracket ∷ []) (at n Equals ∷ b) h.1.1 in
    and_from (is_free x) (is_program_expression s && is_program_expression e) h.0
    (and_from (is_program_expression s) (is_program_expression e) (sum_expressions s a p (front IsFitWord a (at k CloseBracket ∷ []) i))
    (sum_expressions e b q (back (a ++ at k CloseBracket ∷ []) (at n Equals ∷ b) h.1.1).1))

-- ---- declarations

names_free : (xs : List (List ℕ)) (a : List Word) → AreNames xs a → AreFit a → IsTrue (list_all is_free xs)
names_free _ _ (grammar.one_name n x) h = and_from (is_free x) true h.0 refl
names_free _ _ (grammar.more_names n m x {xs} {a} p) h =
    list_all-append is_free xs (x ∷ []) ∙ and_from (list_all is_free xs) (is_free x && true)
    (names_free xs a p (front IsFitWord a (at n Comma ∷ at m (Name x) ∷ []) h))
    (and_from (is_free x) true (back a (at n Comma ∷ at m (Name x) ∷ []) h).1.0 refl)

names_some : (xs : List (List ℕ)) (a : List Word) → AreNames xs a → IsTrue (not (length xs == 0))
names_some _ _ (grammar.one_name n x) = refl
names_some _ _ (grammar.more_names n m x {xs} {a} p) = grind (arith, length-append xs (x ∷ []))

kind_fits : (n : ℕ) (r : Role) (s : Sort) (a : List Word) → IsKind One n r s a → (xs : List (List ℕ)) → IsTrue (not (length xs == 0))
    → IsTrue (list_all is_free xs) → IsTrue (is_program_declaration (record { line = n; role = r; sort = s; names = xs }))
kind_fits _ _ _ _ (grammar.scalars _ n r) xs h j = and_from (not (length xs == 0) && true) (true && list_all is_free xs)
    (and_from (not (length xs == 0)) true h refl) j
kind_fits _ _ _ _ (grammar.arrays _ n m r) xs h j = and_from (not (length xs == 0) && true) (true && list_all is_free xs)
    (and_from (not (length xs == 0)) true h refl) j

declaration_fits : (d : Declaration) (a : List Word) → IsDeclaration One d a → AreFit a → IsTrue (is_program_declaration d)
declaration_fits _ _ (grammar.declaration _ n m r s xs {a} {b} k p) h =
    kind_fits n r s a k xs (names_some xs b p) (names_free xs b p (front IsFitWord b (at m Semicolon ∷ []) (back a (b ++ at m Semicolon ∷ []) h)))

declarations_fit : (ds : List Declaration) (a : List Word) → AreDeclarations One ds a → AreFit a → IsTrue (list_all is_program_declaration ds)
declarations_fit _ _ (grammar.no_declarations _) h = refl
declarations_fit _ _ (grammar.more_declarations _ {ds} {d} {a} {b} p q) h =
    list_all-append is_program_declaration ds (d ∷ []) ∙ and_from (list_all is_program_declaration ds) (is_program_declaration d && true)
    (declarations_fit ds a p (front IsFitWord a b h)) (and_from (is_program_declaration d) true (declaration_fits d b q (back a b h)) refl)

-- ---- the limits

not_more : (b : Bool) (n m : ℕ) → nat_lt m n ≡ b → (m < n → ⊥) → n ≤ m
not_more true n m e h = absurd (h (ltb-true m n e))
not_more false n m e h = ltb-false m n e

expression_few : (whole before c rest : List Word) → ((part more : List Word) → c ≡ part ++ more → IsInProgramExpression (before ++ part) part more)
    → KeepLimits whole → whole ≡ before ++ (c ++ rest) → word_operator_count c ≤ 128
expression_few whole before c rest f keep e = not_more (nat_lt 128 (word_operator_count c)) (word_operator_count c) 128 refl too_many
  where
    too_many : 128 < word_operator_count c → ⊥
    too_many h =
        let s : Split 128 c = split c 128 h in
        let cut : whole ≡ (before ++ s.part) ++ s.next ∷ (s.behind ++ rest) =
        e ∙ ap (λ (l : List Word). before ++ (l ++ rest)) s.is ∙ ap (λ (l : List Word). before ++ l) (append_assoc s.part (s.next ∷ s.behind) rest)
        ∙ sym (append_assoc before s.part (s.next ∷ (s.behind ++ rest))) in
        (keep (before ++ s.part) (s.behind ++ rest) s.next cut).0
        (record { operator = s.operator; part = s.part; behind = s.behind; expression = f s.part (s.next ∷ s.behind) s.is; full = s.full })

shallow : (d : ℕ) (whole before : List Word) → OpensBlock d before → (s : Block (List ℕ)) (a : List Word) → IsBlock s a → (rest : List Word) → KeepLimits whole
    → whole ≡ before ++ (a ++ rest) → d ≤ most_depth
shallow d whole before o _ _ (block n m {a} p) rest keep e =
    not_more (nat_lt most_depth d) d most_depth refl
    (λ h. (keep before ((a ++ at m CloseBrace ∷ []) ++ rest) (at n OpenBrace) e).1 (record { brace = refl; depth = d; opens = o; deep = h }))

guard_fits : (whole before : List Word) (g : Guard (List ℕ)) (a rest : List Word) → IsGuard g a
    → ((part more : List Word) → a ≡ part ++ more → IsInProgramExpression (before ++ part) part more) → KeepLimits whole → whole ≡ before ++ (a ++ rest)
    → AreFit a → IsTrue (is_program_guard g)
guard_fits whole before g a rest p f keep e h =
    let few : word_operator_count a ≤ 128 = expression_few whole before a rest f keep e in
    and_from (has_program_expressions g) (nat_le (operators_of_guard g) most_operators) (guard_expressions g a p h)
    (le-leb (operators_of_guard g) 128 (omega (arith, few, guard_counts g a p)))

assignment_fits : (whole before : List Word) (x : Assignment (List ℕ)) (a rest : List Word) → IsAssignment One x a
    → ((part more : List Word) → a ≡ part ++ more → IsInProgramExpression (before ++ part) part more) → KeepLimits whole → whole ≡ before ++ (a ++ rest)
    → AreFit a → IsTrue (is_program_assignment x)
assignment_fits whole before x a rest p f keep e h =
    let few : word_operator_count a ≤ 128 = expression_few whole before a rest f keep e in
    and_from (assigns_program_expressions x) (nat_le (operators_of_assignment x) most_operators) (assignment_expressions x a p h)
    (le-leb (operators_of_assignment x) 128 (omega (arith, few, assignment_counts x a p)))

nothing_fits : (levels : ℕ) → IsTrue (fits levels End)
nothing_fits levels = le-leb 0 levels (omega arith)

do_fits : (x : Assignment (List ℕ)) (line levels : ℕ) → IsTrue (is_program_assignment x) → IsTrue (fits levels (Do line x End))
do_fits x line levels h = and_from (is_program_assignment x && true) (nat_le 0 levels) (and_from (is_program_assignment x) true h refl)
    (le-leb 0 levels (omega arith))

choice_fits : (line levels : ℕ) (g : Guard (List ℕ)) (y z : Block (List ℕ)) → 0 < levels → IsTrue (is_program_guard g) → IsTrue (fits (levels - 1) y)
    → IsTrue (fits (levels - 1) z) → IsTrue (fits levels (If line g y z End))
choice_fits line levels g y z h p q r = fits_if line levels g y z h
    ∙ and_from (is_program_guard g) (fits (levels - 1) y && fits (levels - 1) z) p (and_from (fits (levels - 1) y) (fits (levels - 1) z) q r)

loop_fits : (line levels : ℕ) (g : Guard (List ℕ)) (y : Block (List ℕ)) → 0 < levels → IsTrue (is_program_guard g) → IsTrue (fits (levels - 1) y)
    → IsTrue (fits levels (While line g y End))
loop_fits line levels g y h p q = fits_while line levels g y h ∙ and_from (is_program_guard g) (fits (levels - 1) y) p q

-- ---- statements and blocks

-- a guard behind its word
in_guard : (before : List Word) (w : Word) (g : Guard (List ℕ)) (a : List Word) → IsGuard g a
    → ((part more : List Word) → IsGuard g (part ++ more) → IsInProgramExpression (before ++ (w ∷ part)) part more) → (part more : List Word) → a ≡ part ++ more
    → IsInProgramExpression ((before ++ w ∷ []) ++ part) part more
in_guard before w g a p f part more e = subst (λ (l : List Word). IsInProgramExpression l part more) (sym (append_assoc before (w ∷ []) part))
    (f part more (subst (IsGuard g) e p))

-- a word, and words behind it in two parts
behind_word : (whole before : List Word) (w : Word) (a b rest : List Word) → whole ≡ before ++ ((w ∷ (a ++ b)) ++ rest)
    → whole ≡ (before ++ w ∷ []) ++ (a ++ (b ++ rest))
behind_word whole before w a b rest e = e ∙ ap (λ (l : List Word). before ++ (w ∷ l)) (append_assoc a b rest)
    ∙ sym (append_assoc before (w ∷ []) (a ++ (b ++ rest)))

behind_part : (whole before : List Word) (w : Word) (a b : List Word) → whole ≡ (before ++ w ∷ []) ++ (a ++ b) → whole ≡ (before ++ (w ∷ a)) ++ b
behind_part whole before w a b e = e ∙ append_assoc before (w ∷ []) (a ++ b) ∙ sym (append_assoc before (w ∷ a) b)

levels_left : (d levels : ℕ) → d + levels ≡ most_depth → suc d ≤ most_depth → (0 < levels) × (suc d + (levels - 1) ≡ most_depth)
levels_left d levels e h = (omega (arith, e, h), omega (arith, e, h))

mutual
  statement_fits : (s : Block (List ℕ)) (a : List Word) → IsStatement s a → (d levels : ℕ) (whole before rest : List Word) → IsInBlock d before
      → KeepLimits whole → whole ≡ before ++ (a ++ rest) → AreFit a → d + levels ≡ most_depth → IsTrue (fits levels s)
  statement_fits _ _ (assigns m {x} {a} p) d levels whole before rest i keep e h l =
      do_fits x (first_line a) levels
      (assignment_fits whole before x a (at m Semicolon ∷ rest) p (λ part more q. in_assignment d i (subst (IsAssignment One x) q p)) keep
      (e ∙ ap (λ (v : List Word). before ++ v) (append_assoc a (at m Semicolon ∷ []) rest)) (front IsFitWord a (at m Semicolon ∷ []) h))
  statement_fits _ _ (chooses n {g} {y} {a} {b} p q) d levels whole before rest i keep e h l =
      let all : whole ≡ (before ++ at n IfWord ∷ []) ++ (a ++ (b ++ rest)) = behind_word whole before (at n IfWord) a b rest e in
      let o : OpensBlock (suc d) (before ++ (at n IfWord ∷ a)) = yes_block d n i p in
      let at_block : whole ≡ (before ++ (at n IfWord ∷ a)) ++ (b ++ rest) = behind_part whole before (at n IfWord) a (b ++ rest) all in
      let k = levels_left d levels l (shallow (suc d) whole (before ++ (at n IfWord ∷ a)) o y b q rest keep at_block) in
      choice_fits n levels g y End k.0
      (guard_fits whole (before ++ at n IfWord ∷ []) g a (b ++ rest) p (in_guard before (at n IfWord) g a p (λ part more r. in_choice d n i r)) keep all
      (front IsFitWord a b h.1))
      (block_fits y b q (suc d) (levels - 1) whole (before ++ (at n IfWord ∷ a)) rest o keep at_block (back a b h.1) k.1) (nothing_fits (levels - 1))
  statement_fits _ _ (chooses_else n m {g} {y} {z} {a} {b} {c} p q r) d levels whole before rest i keep e h l =
      let tail : List Word = at m Else ∷ (c ++ rest) in
      let all : whole ≡ (before ++ at n IfWord ∷ []) ++ (a ++ (b ++ tail)) = behind_word whole before (at n IfWord) a (b ++ (at m Else ∷ c)) rest e
      ∙ ap (λ (v : List Word). (before ++ at n IfWord ∷ []) ++ (a ++ v)) (append_assoc b (at m Else ∷ c) rest) in
      let o : OpensBlock (suc d) (before ++ (at n IfWord ∷ a)) = yes_block d n i p in
      let at_block : whole ≡ (before ++ (at n IfWord ∷ a)) ++ (b ++ tail) = behind_part whole before (at n IfWord) a (b ++ tail) all in
      let k = levels_left d levels l (shallow (suc d) whole (before ++ (at n IfWord ∷ a)) o y b q tail keep at_block) in
      let other : List Word = before ++ (at n IfWord ∷ (a ++ (b ++ at m Else ∷ []))) in
      let at_other : whole ≡ other ++ (c ++ rest) = at_block ∙ simp append_assoc in
      choice_fits n levels g y z k.0
      (guard_fits whole (before ++ at n IfWord ∷ []) g a (b ++ tail) p (in_guard before (at n IfWord) g a p (λ part more j. in_choice d n i j)) keep all
      (front IsFitWord a (b ++ (at m Else ∷ c)) h.1))
      (block_fits y b q (suc d) (levels - 1) whole (before ++ (at n IfWord ∷ a)) tail o keep at_block
      (front IsFitWord b (at m Else ∷ c) (back a (b ++ (at m Else ∷ c)) h.1)) k.1)
      (block_fits z c r (suc d) (levels - 1) whole other rest (no_block d n m i p q) keep at_other
      (back b (at m Else ∷ c) (back a (b ++ (at m Else ∷ c)) h.1)).1 k.1)
  statement_fits _ _ (repeats n {g} {y} {a} {b} p q) d levels whole before rest i keep e h l =
      let all : whole ≡ (before ++ at n WhileWord ∷ []) ++ (a ++ (b ++ rest)) = behind_word whole before (at n WhileWord) a b rest e in
      let o : OpensBlock (suc d) (before ++ (at n WhileWord ∷ a)) = body d n i p in
      let at_block : whole ≡ (before ++ (at n WhileWord ∷ a)) ++ (b ++ rest) = behind_part whole before (at n WhileWord) a (b ++ rest) all in
      let k = levels_left d levels l (shallow (suc d) whole (before ++ (at n WhileWord ∷ a)) o y b q rest keep at_block) in
      loop_fits n levels g y k.0
      (guard_fits whole (before ++ at n WhileWord ∷ []) g a (b ++ rest) p
      (in_guard before (at n WhileWord) g a p (λ part more r. in_repetition d n i r)) keep all (front IsFitWord a b h.1))
      (block_fits y b q (suc d) (levels - 1) whole (before ++ (at n WhileWord ∷ a)) rest o keep at_block (back a b h.1) k.1)

  block_fits : (s : Block (List ℕ)) (a : List Word) → IsBlock s a → (d levels : ℕ) (whole before rest : List Word) → OpensBlock d before → KeepLimits whole
      → whole ≡ before ++ (a ++ rest) → AreFit a → d + levels ≡ most_depth → IsTrue (fits levels s)
  block_fits _ _ (block n m {b} {a} p) d levels whole before rest o keep e h l =
      statements_fit b a p d levels n whole before (at m CloseBrace ∷ rest) o keep
      (e ∙ ap (λ (v : List Word). before ++ (at n OpenBrace ∷ v)) (append_assoc a (at m CloseBrace ∷ []) rest)) (front IsFitWord a (at m CloseBrace ∷ []) h.1) l

  statements_fit : (s : Block (List ℕ)) (a : List Word) → AreStatements s a → (d levels n : ℕ) (whole before rest : List Word) → OpensBlock d before
      → KeepLimits whole → whole ≡ before ++ (at n OpenBrace ∷ (a ++ rest)) → AreFit a → d + levels ≡ most_depth → IsTrue (fits levels s)
  statements_fit _ _ no_statements d levels n whole before rest o keep e h l = nothing_fits levels
  statements_fit _ _ (more_statements {b} {s} {a} {c} p q) d levels n whole before rest o keep e h l =
      let first : whole ≡ before ++ (at n OpenBrace ∷ (a ++ (c ++ rest))) = e
      ∙ ap (λ (v : List Word). before ++ (at n OpenBrace ∷ v)) (append_assoc a c rest) in
      let last : whole ≡ (before ++ (at n OpenBrace ∷ a)) ++ (c ++ rest) = first ∙ sym (append_assoc before (at n OpenBrace ∷ a) (c ++ rest)) in
      fits_joined levels b s
      ∙ and_from (fits levels b) (fits levels s) (statements_fit b a p d levels n whole before (c ++ rest) o keep first (front IsFitWord a c h) l)
      (statement_fits s c q d levels whole (before ++ (at n OpenBrace ∷ a)) rest (opened d n o p) keep last (back a c h) l)

program_fits : (p : Program) (ws : List Word) → IsProgram p ws → KeepLimits ws → AreFit ws → IsTrue (is_well_formed_program p)
program_fits _ _ (program n m {ds} {b} {a} {c} p q) keep h =
    and_from (list_all is_program_declaration ds) (fits most_depth b) (declarations_fit ds a p (front IsFitWord a c h.1.1))
    (block_fits b c q 0 most_depth (at n Prog ∷ at m Semicolon ∷ (a ++ c)) (at n Prog ∷ at m Semicolon ∷ a)
    [] (outermost n m p) keep (ap (λ (l : List Word). at n Prog ∷ at m Semicolon ∷ (a ++ l)) (sym (append-nil c))) (back a c h.1.1) refl)

-- ---- the tokens of bytes

abbrev AreFitTokens : List Token → Type 0
AreFitTokens ts = AllByRecursion (λ t. IsFit t.kind) ts

by_tests : (p i e w : Bool) (x : List ℕ) → is_free x ≡ not (p || (i || (e || (w || false))))
    → IsFit (word_or_name (cond p (Some Prog) (cond i (Some IfWord) (cond e (Some Else) (cond w (Some WhileWord) None)))) x)
by_tests true i e w x h = tt
by_tests false true e w x h = tt
by_tests false false true w x h = tt
by_tests false false false true x h = tt
by_tests false false false false x h = h

kind_fit : (t : TokenKind) → IsProper t → IsFit (program_kind t)
kind_fit (Name x) h = by_tests (bytes_eq x (codes "prog")) (bytes_eq x (codes "if")) (bytes_eq x (codes "else")) (bytes_eq x (codes "while")) x refl
kind_fit (Number n) h = grind (arith, h.0)
kind_fit _ h = tt

marked_fit : (ts : List Token) (u : Bool) (k n : ℕ) → AreCounted n ts → AreFitTokens (mark_tokens u k ts)
marked_fit [] u k n h = tt
marked_fit (t ∷ ts) u k n h =
    (kind_fit t.kind h.0, marked_fit ts (opens_relation u (program_kind t.kind)) (operators_up_to u (program_kind t.kind) k) (counted_by_scan t.kind n) h.2)

front_fit : (a b : List Token) → AreFitTokens (a ++ b) → AreFit (words a)
front_fit [] b h = tt
front_fit (t ∷ a) b h = (h.0, front_fit a b h.1)

spelled_fits : (ts : List Token) (p : Program) → AreFitTokens ts → TokensSpellProgram ts p → IsTrue (is_well_formed_program p)
spelled_fits ts p f h = program_fits p (words h.before) h.spelled h.limits (front_fit h.before (h.token ∷ h.behind) (subst AreFitTokens h.parts f))

-- What bytes spell is well formed.
pub well_formed : (bytes : List ℕ) (p : Program) → TextSpellsProgram bytes p → IsTrue (is_well_formed_program p)
well_formed bytes p t =
    spelled_fits (program_tokens (tokens_of bytes)) p (marked_fit (tokens_of bytes) false 0 0 (tokens_counted bytes))
    (read_spelled (program_tokens (tokens_of bytes)) p (marks (tokens_of bytes) false 0) (reads bytes p t))
