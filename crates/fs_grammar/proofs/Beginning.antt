-- The words that lead somewhere are those that begin a file.
use Rattle.std.proofs.Common.{◌≡◌, ℕ, Bool, true, false, List, [], ◌∷◌, ◌++◌, Option, Some, None, refl, sym, ap, subst, ◌∙◌, append_assoc}
use Rattle.std.specs.Prelude.{IsTrue}
use Rattle.std.proofs.lemmas.List.{append-nil}
use Rattle.fs_model.specs.declared.parts.Rel.TheVariants.{Eq}
use Rattle.fs_model.specs.Expressions.{Guard, Assignment}
use Rattle.fs_model.specs.Source.{Declaration, SourceState, Source}
use Rattle.fs_grammar.specs.declared.format.Format.{Format}
use Rattle.fs_grammar.specs.declared.format.Format.TheVariants.{One, Two}
use Rattle.fs_grammar.specs.declared.token.TokenKind.{TokenKind}
use Rattle.fs_grammar.specs.declared.token.TokenKind.TheVariants.{Fsmd, Declare, Reset, State, When, Goto, Emit, Name, Number, Semicolon, Colon, Comma, Equals}
use Rattle.fs_grammar.specs.declared.token.TokenKind.TheVariants.{OpenParen, OpenBracket, OpenBrace, Plus, Minus, Star, Slash, Percent, Bang, AndAnd, OrOr}
use Rattle.fs_grammar.specs.declared.token.TokenKind.TheVariants.{Relation}
use Rattle.fs_grammar.specs.Formats.{format_number}
use Rattle.fs_grammar.specs.Grammar as machine
use Rattle.fs_grammar.specs.Grammar.{OpenState, OpenTransition, FactorContext, ProductContext, SumContext, UnitContext, ConjunctionContext, GuardContext}
use Rattle.fs_grammar.specs.Grammar.{ParseState, at_start, at_format, at_semicolon, at_declaration, at_sort, at_declared, after_declared, at_reset, after_reset}
use Rattle.fs_grammar.specs.Grammar.{at_state, at_state_name, after_state_name, at_transition, at_target, after_target, at_assignment, at_port}
use Rattle.fs_grammar.specs.Grammar.{after_assignment_name, at_equals, at_unit, after_conjunction, after_guard, at_factor, after_name, after_product, after_sum}
use Rattle.fs_grammar.specs.Spelling as spelling
use Rattle.fs_grammar.specs.Spelling.{Word, at, IsFile, IsState, IsCondition, IsKind}
use Rattle.fs_grammar.specs.WordWalks.{and_then, walk, source_at}
use Rattle.fs_grammar.specs.ExpressionEnds.{IsInExpression, in_guard, in_first, in_next}
use Rattle.fs_grammar.specs.Beginnings as rules
use Rattle.fs_grammar.specs.Beginnings.{Rule, Part, token, rule, IsAlternative, SpellsWhole, Begins, nothing, by_parts, BeginParts, by_nothing, by_next}
use Rattle.fs_grammar.specs.Beginnings.{token_whole, rule_whole, BeginsFile}
use Rattle.fs_grammar.proofs.Reached as before
use Rattle.fs_grammar.proofs.Reached.{Cut, Is, IsHead, BeforeName, AfterReset, AfterState, IsOpenState, AfterTarget, BeforeAssignment, IsOpenTransition}
use Rattle.fs_grammar.proofs.Reached.{BeforeUnit, BeforeConjunction, BeforeGuard, BeforeFactor, BeforeProduct, BeforeSum, Reached}
use Rattle.fs_grammar.proofs.Complete.{complete}
use Rattle.fs_grammar.proofs.Sound.{reached}
use Rattle.fs_grammar.proofs.Alternatives.{completed}

-- ---- words that begin parts begin the rule

same : (r : Rule) {a b : List Word} → Begins r a → b ≡ a → Begins r b
same r {a} {b} h e = subst (λ (l : List Word). Begins r l) (sym e) h

pub leading : (r q : Rule) (ps : List Part) → IsAlternative r (rule q ∷ ps) → (a : List Word) → Begins q a → Begins r a
leading r q ps h a b = by_parts r h (by_next q ps b)

pub prefixed : (r q : Rule) (n : ℕ) (t : TokenKind) (ps : List Part) → IsAlternative r (token t ∷ rule q ∷ ps) → (a : List Word) → Begins q a
    → Begins r (at n t ∷ a)
prefixed r q n t ps h a b = by_parts r h (token_whole n t (by_next q ps b))

pub chained : (r q p : Rule) (n : ℕ) (t : TokenKind) → IsAlternative r (rule q ∷ token t ∷ rule p ∷ []) → (a b : List Word) → SpellsWhole q a → Begins p b
    → Begins r (a ++ (at n t ∷ b))
chained r q p n t h a b s c = by_parts r h (rule_whole q a s (token_whole n t (by_next p [] c)))

-- a whole first part
pub whole_first : (r q : Rule) (ps : List Part) → IsAlternative r (rule q ∷ ps) → (a : List Word) → SpellsWhole q a → Begins r a
whole_first r q ps h a s = same r (by_parts r h (rule_whole q a s (by_nothing ps))) (sym (append-nil a))

-- ---- words behind a file, a state or a transition that goes on

file_in : (f : Format) (s : Source) (a : List Word) → IsFile f s a → (b : List Word) → Begins (rules.state f) b → BeginsFile (a ++ b)
file_in _ _ _ (spelling.file f i j k n m l ds x ss {a} {b = c} p q) b h =
    subst (λ (w : List Word). BeginsFile (at i Fsmd ∷ at j (Number (format_number f)) ∷ at k Semicolon ∷ w))
    (sym (append_assoc a (at n Reset ∷ at m (Name x) ∷ at l Semicolon ∷ c) b))
    (by_parts rules.file (rules.one_file f x)
    (token_whole i Fsmd
    (token_whole j (Number (format_number f))
    (token_whole k Semicolon (rule_whole (rules.declarations f) a (ds, p) (token_whole n Reset (token_whole m (Name x) (token_whole l Semicolon
    (by_next (rules.states f)
    [] (by_parts (rules.states f) (rules.more_states f) (rule_whole (rules.states f) c (ss, q) (by_next (rules.state f) [] h))))))))))))

state_in : (f : Format) (s : SourceState) (a : List Word) → IsState f s a → (b : List Word) → Begins (rules.transition f) b → Begins (rules.state f) (a ++ b)
state_in _ _ _ (spelling.state f n m k x ls {a} p) b h =
    by_parts (rules.state f) (rules.one_state f x)
    (token_whole n State
    (token_whole m (Name x)
    (token_whole k Colon
    (by_next (rules.transitions f)
    [] (by_parts (rules.transitions f) (rules.more_transitions f) (rule_whole (rules.transitions f) a (ls, p) (by_next (rules.transition f) [] h)))))))

transition_in : (d : OpenState) (a : List Word) → IsOpenState d a → (b : List Word) → Begins (rules.transition d.format) b → (ws : List Word) → ws ≡ a ++ b
    → BeginsFile ws
transition_in d a h b p ws e = same rules.file (file_in d.format d.source h.a h.front (h.b ++ b) (state_in d.format d.state h.b h.back b p))
    (e ∙ rw h.is (append_assoc h.a h.b b))

-- behind the declarations
head_parts : (f : Format) (x : List ℕ) (ds : List Declaration) (a : List Word) → IsHead f ds a → (b : List Word)
    → BeginParts (token Reset ∷ token (Name x) ∷ token Semicolon ∷ rule (rules.states f) ∷ []) b → (ws : List Word) → ws ≡ a ++ b → BeginsFile ws
head_parts f x ds a h b p ws e =
    same rules.file
    (by_parts rules.file (rules.one_file f x)
    (token_whole h.i Fsmd
    (token_whole h.j (Number (format_number f)) (token_whole h.k Semicolon (rule_whole (rules.declarations f) h.a (ds, h.declarations) p)))))
    (e ∙ ap (λ (l : List Word). l ++ b) h.is)

declaration_in : (f : Format) (ds : List Declaration) (a : List Word) → IsHead f ds a → (b : List Word) → Begins (rules.declaration f) b → (ws : List Word)
    → ws ≡ a ++ b → BeginsFile ws
declaration_in f ds a h b p ws e =
    same rules.file (by_parts rules.file (rules.one_file f []) (token_whole h.i Fsmd (token_whole h.j (Number (format_number f)) (token_whole h.k Semicolon
    (by_next (rules.declarations f) _
    (by_parts (rules.declarations f) (rules.more_declarations f)
    (rule_whole (rules.declarations f) h.a (ds, h.declarations) (by_next (rules.declaration f) [] p))))))))
    (e ∙ ap (λ (l : List Word). l ++ b) h.is)

pub before_name : (xs : List (List ℕ)) (a : List Word) → BeforeName xs a → Begins rules.names a
before_name _ _ before.no_name = nothing rules.names
before_name _ _ (before.comma n {xs} {a} p) = by_parts rules.names (rules.more_names []) (rule_whole rules.names a (xs, p) (token_whole n Comma (by_nothing _)))

pub declares_in : (f : Format) (d : Declaration) (a b c : List Word) → IsKind f d.line d.role d.sort a → Begins rules.names b → c ≡ a ++ b
    → Begins (rules.declaration f) c
declares_in f d a b c h p e = same (rules.declaration f)
    (by_parts (rules.declaration f) (rules.one_declaration f) (rule_whole (rules.kind f) a (d.line, d.role, d.sort, h) (by_next rules.names _ p))) e

-- ---- words of a transition

-- words that begin a file, and end in a part of a guard or an assignment
pub record Within (ws : List Word) : Type 0 where
  pub begins : BeginsFile ws
  pub part : List Word
  pub is : IsInExpression ws part

effects_in : (f : Format) (xs : List (Assignment (List ℕ))) (a : List Word) → BeforeAssignment f xs a → (b : List Word) → Begins (rules.assignment f) b
    → Begins (rules.effects f) (a ++ b)
effects_in _ _ _ (before.colon f n) b p = prefixed (rules.effects f) (rules.assignments f) n Colon [] (rules.some_effects f) b
    (leading (rules.assignments f) (rules.assignment f) [] (rules.one_assignment f) b p)
effects_in _ _ _ (before.next f n m {xs} {a} q) b p =
    same (rules.effects f)
    (prefixed (rules.effects f) (rules.assignments f) n Colon [] (rules.some_effects f) (a ++ (at m Comma ∷ b))
    (chained (rules.assignments f) (rules.assignments f) (rules.assignment f) m Comma (rules.more_assignments f) a b (xs, q) p)) (simp append_assoc)

-- a condition ends with its word
record IsBeforeTarget (ws : List Word) : Type 0 where
  words : List Word
  n : ℕ
  is : ws ≡ words ++ at n Goto ∷ []

before_target : (n : ℕ) (g : Option (Guard (List ℕ))) (a : List Word) → IsCondition n g a → IsBeforeTarget a
before_target _ _ _ (spelling.always n) = record { words = []; n = n; is = refl }
before_target _ _ _ (spelling.when n m {g} {a} p) = record { words = at n When ∷ a; n = m; is = refl }

-- what an assignment begins behind the target
assignment_part : (f : Format) (n m : ℕ) (x : List ℕ) (earlier : List Word) (xs : List (Assignment (List ℕ))) (c : List Word) → BeforeAssignment f xs c
    → (b : List Word) → Begins (rules.assignment f) b
    → IsInExpression (earlier ++ (at n Goto ∷ at m (Name x) ∷ (c ++ b))) b
assignment_part _ n m x earlier _ _ (before.colon f k) b p = in_first f earlier n m k x p
assignment_part _ n m x earlier _ _ (before.next f k l {xs} {a} q) b p =
    subst (λ (w : List Word). IsInExpression (earlier ++ (at n Goto ∷ at m (Name x) ∷ at k Colon ∷ w)) b) (sym (append_assoc a (at l Comma ∷ []) b))
    (in_next f earlier n m k l x q p)

assignment_in : (o : OpenTransition) (a : List Word) → IsOpenTransition o a → (b : List Word) → Begins (rules.assignment o.state.format) b → (ws : List Word)
    → ws ≡ a ++ b → Within ws
assignment_in o a h b p ws e =
    let f = o.state.format in
    let r : ws ≡ h.a ++ (h.b ++ (at h.m (Name o.target) ∷ (h.c ++ b))) = e ∙ rw h.is (simp append_assoc) in
    let c = before_target o.line o.guard h.b h.condition in
    let k : ws ≡ (h.a ++ c.words) ++ (at c.n Goto ∷ at h.m (Name o.target) ∷ (h.c ++ b)) = r
    ∙ ap (λ (l : List Word). h.a ++ (l ++ (at h.m (Name o.target) ∷ (h.c ++ b)))) c.is ∙ simp append_assoc in
    record {
      begins = transition_in o.state h.a h.state (h.b ++ (at h.m (Name o.target) ∷ (h.c ++ b)))
          (by_parts (rules.transition f) (rules.one_transition f o.target)
          (rule_whole rules.condition h.b (o.line, o.guard, h.condition)
          (token_whole h.m (Name o.target) (by_next (rules.effects f) _ (effects_in f o.assignments h.c h.before b p)))))
          ws r;
      part = b;
      is = subst (λ (w : List Word). IsInExpression w b) (sym k) (assignment_part f c.n h.m o.target (h.a ++ c.words) o.assignments h.c h.before b p);
    }

guard_part : (d : OpenState) (n : ℕ) (a : List Word) → IsOpenState d a → (b : List Word) → Begins rules.guard b → (ws : List Word)
    → ws ≡ (a ++ at n When ∷ []) ++ b → Within ws
guard_part d n a h b p ws e =
    let f = d.format in
    let r : ws ≡ a ++ (at n When ∷ b) = e ∙ simp append_assoc in
    record {
      begins = transition_in d a h (at n When ∷ b)
          (leading (rules.transition f) rules.condition _ (rules.one_transition f []) (at n When ∷ b)
          (prefixed rules.condition rules.guard n When _ rules.when b p)) ws r;
      part = b;
      is = subst (λ (w : List Word). IsInExpression w b) (sym r) (in_guard a n p);
    }

mutual
  unit_in : (k : UnitContext) (a : List Word) → BeforeUnit k a → (b : List Word) → Begins rules.unit b → (ws : List Word) → ws ≡ a ++ b → Within ws
  unit_in _ _ (before.negates n k a h) b p ws e = unit_in k a h (at n Bang ∷ b)
      (prefixed rules.unit rules.unit n Bang [] rules.not b p) ws (e ∙ simp append_assoc)
  unit_in _ _ (before.first_of_all k a h) b p ws e = conjunction_in k a h b (leading rules.conjunction rules.unit [] rules.one_unit b p) ws e
  unit_in _ _ (before.and_after n c k a q h d) b p ws e = conjunction_in k a h (q ++ (at n AndAnd ∷ b))
      (chained rules.conjunction rules.conjunction rules.unit n AndAnd rules.and q b (c, d) p) ws (e ∙ simp append_assoc)

  conjunction_in : (k : ConjunctionContext) (a : List Word) → BeforeConjunction k a → (b : List Word) → Begins rules.conjunction b → (ws : List Word)
      → ws ≡ a ++ b → Within ws
  conjunction_in _ _ (before.first_of_any k a h) b p ws e = guard_in k a h b (leading rules.guard rules.conjunction [] rules.one_conjunction b p) ws e
  conjunction_in _ _ (before.or_after n g k a q h d) b p ws e =
      guard_in k a h (q ++ (at n OrOr ∷ b)) (chained rules.guard rules.guard rules.conjunction n OrOr rules.or q b (g, d) p) ws (e ∙ simp append_assoc)

  guard_in : (k : GuardContext) (a : List Word) → BeforeGuard k a → (b : List Word) → Begins rules.guard b → (ws : List Word) → ws ≡ a ++ b → Within ws
  guard_in _ _ (before.braces n k a h) b p ws e = unit_in k a h (at n OpenBrace ∷ b)
      (prefixed rules.unit rules.guard n OpenBrace _ rules.braces b p) ws (e ∙ simp append_assoc)
  guard_in _ _ (before.transition_guard n d a h) b p ws e = guard_part d n a h b p ws e

-- what an emit begins with in a text of format 2
emits : (f : Format) → f ≡ Two → (n : ℕ) (x : List ℕ) {b : List Word} → BeginParts (token (Name x) ∷ rule rules.sum ∷ []) b
    → Begins (rules.assignment f) (at n Emit ∷ b)
emits f v n x {b} p = subst (λ (g : Format). Begins (rules.assignment g) (at n Emit ∷ b)) (sym v)
    (by_parts (rules.assignment Two) (rules.emitted x) (token_whole n Emit p))

mutual
  factor_in : (k : FactorContext) (a : List Word) → BeforeFactor k a → (b : List Word) → Begins rules.factor b → (ws : List Word) → ws ≡ a ++ b → Within ws
  factor_in _ _ (before.first_factor k a h) b p ws e = product_in k a h b (leading rules.product rules.factor [] rules.one_factor b p) ws e
  factor_in _ _ (before.times n q k a c h d) b p ws e = product_in k a h (c ++ (at n Star ∷ b))
      (chained rules.product rules.product rules.factor n Star rules.times c b (q, d) p) ws (e ∙ simp append_assoc)
  factor_in _ _ (before.divides n q k a c h d) b p ws e = product_in k a h (c ++ (at n Slash ∷ b))
      (chained rules.product rules.product rules.factor n Slash rules.divides c b (q, d) p) ws (e ∙ simp append_assoc)
  factor_in _ _ (before.remainder_of n q k a c h d) b p ws e =
      product_in k a h (c ++ (at n Percent ∷ b)) (chained rules.product rules.product rules.factor n Percent rules.remainder_of c b (q, d) p) ws
      (e ∙ simp append_assoc)
  factor_in _ _ (before.negative n k a h) b p ws e = factor_in k a h (at n Minus ∷ b)
      (prefixed rules.factor rules.factor n Minus [] rules.negative b p) ws (e ∙ simp append_assoc)

  product_in : (k : ProductContext) (a : List Word) → BeforeProduct k a → (b : List Word) → Begins rules.product b → (ws : List Word) → ws ≡ a ++ b → Within ws
  product_in _ _ (before.first_product k a h) b p ws e = sum_in k a h b (leading rules.sum rules.product [] rules.one_product b p) ws e
  product_in _ _ (before.plus n s k a c h d) b p ws e = sum_in k a h (c ++ (at n Plus ∷ b))
      (chained rules.sum rules.sum rules.product n Plus rules.plus c b (s, d) p) ws (e ∙ simp append_assoc)
  product_in _ _ (before.minus n s k a c h d) b p ws e = sum_in k a h (c ++ (at n Minus ∷ b))
      (chained rules.sum rules.sum rules.product n Minus rules.minus c b (s, d) p) ws (e ∙ simp append_assoc)

  sum_in : (k : SumContext) (a : List Word) → BeforeSum k a → (b : List Word) → Begins rules.sum b → (ws : List Word) → ws ≡ a ++ b → Within ws
  sum_in _ _ (before.parens n k a h) b p ws e = factor_in k a h (at n OpenParen ∷ b)
      (prefixed rules.factor rules.sum n OpenParen _ rules.group b p) ws (e ∙ simp append_assoc)
  sum_in _ _ (before.index n m x k a h) b p ws e =
      factor_in k a h (at n (Name x) ∷ at m OpenBracket ∷ b)
      (by_parts rules.factor (rules.read x) (token_whole n (Name x) (token_whole m OpenBracket (by_next rules.sum _ p)))) ws (e ∙ simp append_assoc)
  sum_in _ _ (before.left k a h) b p ws e = unit_in k a h b (leading rules.unit rules.sum _ (rules.literal Eq) b p) ws e
  sum_in _ _ (before.right n r l k a c h d) b p ws e = unit_in k a h (c ++ (at n (Relation r) ∷ b))
      (chained rules.unit rules.sum rules.sum n (Relation r) (rules.literal r) c b (l, d) p) ws (e ∙ simp append_assoc)
  sum_in _ _ (before.write_index n m o x a h) b p ws e =
      assignment_in o a h (at n (Name x) ∷ at m OpenBracket ∷ b)
      (leading (rules.assignment o.state.format) rules.destination _ (rules.assigned o.state.format) (at n (Name x) ∷ at m OpenBracket ∷ b)
      (by_parts rules.destination (rules.element_at x) (token_whole n (Name x) (token_whole m OpenBracket (by_next rules.sum _ p)))))
      ws (e ∙ simp append_assoc)
  sum_in _ _ (before.value n o d a c h q) b p ws e = assignment_in o a h (c ++ (at n Equals ∷ b))
      (chained (rules.assignment o.state.format) rules.destination rules.sum n Equals (rules.assigned o.state.format) c b (d, q) p) ws (e ∙ simp append_assoc)
  sum_in _ _ (before.emitted n m o x a v h) b p ws e = assignment_in o a h (at n Emit ∷ at m (Name x) ∷ b)
      (emits o.state.format v n x (token_whole m (Name x) (by_next rules.sum [] p))) ws (e ∙ simp append_assoc)

-- ---- each place

at_the_end : (ws : List Word) → ws ≡ ws ++ []
at_the_end ws = sym (append-nil ws)

pub with_last : {P : List Word → Type 0} (v ws : List Word) (h : Cut P (Is v) ws) → ws ≡ h.a ++ v
with_last v ws h = h.is ∙ ap (λ (l : List Word). h.a ++ l) h.back

reset_in : (f : Format) (s : Source) (ws : List Word) → AfterReset f s ws → BeginsFile ws
reset_in _ _ _ (before.reset f n m ds x a h) = head_parts f x ds a h (at n Reset ∷ at m (Name x) ∷ [])
    (token_whole n Reset (token_whole m (Name x) (by_nothing _))) (a ++ (at n Reset ∷ at m (Name x) ∷ [])) refl

named_in : (d : OpenState) (ws : List Word) → AfterState d ws → BeginsFile ws
named_in _ _ (before.named f n m s x a h) = file_in f s a h (at n State ∷ at m (Name x) ∷ [])
    (by_parts (rules.state f) (rules.one_state f x) (token_whole n State (token_whole m (Name x) (by_nothing _))))

target_in : (o : OpenTransition) (ws : List Word) → AfterTarget o ws → BeginsFile ws
target_in _ _ (before.target n m d g x a b h p) =
    transition_in d a h (b ++ at m (Name x) ∷ [])
    (by_parts (rules.transition d.format) (rules.one_transition d.format x) (rule_whole rules.condition b (n, g, p) (token_whole m (Name x) (by_nothing _))))
    (a ++ (b ++ at m (Name x) ∷ [])) refl

-- a guard or an assignment has begun and has not ended
abbrev pub is_in_expression : ParseState → Bool
is_in_expression (at_assignment o) = true
is_in_expression (at_port o) = true
is_in_expression (after_assignment_name o x) = true
is_in_expression (at_equals o d) = true
is_in_expression (at_unit k) = true
is_in_expression (after_conjunction c k) = true
is_in_expression (after_guard g k) = true
is_in_expression (at_factor k) = true
is_in_expression (after_name x k) = true
is_in_expression (after_product p k) = true
is_in_expression (after_sum s k) = true
is_in_expression _ = false

-- what was read at a place in a guard or an assignment
pub within : (s : ParseState) (ws : List Word) → Reached s ws → IsTrue (is_in_expression s) → Within ws
within (at_assignment o) ws h i = assignment_in o ws h [] (nothing (rules.assignment o.state.format)) ws (at_the_end ws)
within (at_port o) ws h i = assignment_in o h.2.a h.2.front (at h.0 Emit ∷ [])
    (emits o.state.format h.1 h.0 [] (by_nothing _)) ws (with_last (at h.0 Emit ∷ []) ws h.2)
within (after_assignment_name o x) ws h i =
    assignment_in o h.1.a h.1.front (at h.0 (Name x) ∷ [])
    (leading (rules.assignment o.state.format) rules.destination _ (rules.assigned o.state.format) (at h.0 (Name x) ∷ [])
    (by_parts rules.destination (rules.scalar_name x) (token_whole h.0 (Name x) (by_nothing _)))) ws (with_last (at h.0 (Name x) ∷ []) ws h.1)
within (at_equals o d) ws h i = assignment_in o h.a h.front h.b
    (whole_first (rules.assignment o.state.format) rules.destination _ (rules.assigned o.state.format) h.b (d, h.back)) ws h.is
within (at_unit k) ws h i = unit_in k ws h [] (nothing rules.unit) ws (at_the_end ws)
within (after_conjunction c k) ws h i = conjunction_in k h.a h.front h.b (whole_first rules.conjunction rules.conjunction _ rules.and h.b (c, h.back)) ws h.is
within (after_guard g k) ws h i = guard_in k h.a h.front h.b (whole_first rules.guard rules.guard _ rules.or h.b (g, h.back)) ws h.is
within (at_factor k) ws h i = factor_in k ws h [] (nothing rules.factor) ws (at_the_end ws)
within (after_name x k) ws h i = factor_in k h.1.a h.1.front (at h.0 (Name x) ∷ [])
    (by_parts rules.factor (rules.variable x) (token_whole h.0 (Name x) (by_nothing _))) ws (with_last (at h.0 (Name x) ∷ []) ws h.1)
within (after_product p k) ws h i = product_in k h.a h.front h.b (whole_first rules.product rules.product _ rules.times h.b (p, h.back)) ws h.is
within (after_sum s k) ws h i = sum_in k h.a h.front h.b (whole_first rules.sum rules.sum _ rules.plus h.b (s, h.back)) ws h.is
within _ ws h i = absurd cc

pub begins : (s : ParseState) (ws : List Word) → Reached s ws → BeginsFile ws
begins at_start ws e = same rules.file (nothing rules.file) e
begins at_format ws h = same rules.file (by_parts rules.file (rules.one_file One []) (token_whole h.0 Fsmd (by_nothing _))) h.1
begins (at_semicolon f) ws h =
    same rules.file (by_parts rules.file (rules.one_file f []) (token_whole h.0 Fsmd (token_whole h.1 (Number (format_number f)) (by_nothing _)))) h.2
begins (at_declaration f ds) ws h = head_parts f [] ds ws h [] (by_nothing _) ws (at_the_end ws)
begins (at_sort f ds n r) ws h =
    declaration_in f ds h.a h.front (at n (Declare r) ∷ [])
    (leading (rules.declaration f) (rules.kind f) _ (rules.one_declaration f) (at n (Declare r) ∷ [])
    (by_parts (rules.kind f) (rules.scalars f r) (token_whole n (Declare r) (by_nothing _)))) ws (with_last (at n (Declare r) ∷ []) ws h)
begins (at_declared f ds d) ws h = declaration_in f ds h.a h.front h.b
    (declares_in f d h.back.a h.back.b h.b h.back.front (before_name d.names h.back.b h.back.back) h.back.is) ws h.is
begins (after_declared f ds d) ws h =
    declaration_in f ds h.a h.front h.b
    (declares_in f d h.back.a h.back.b h.b h.back.front (whole_first rules.names rules.names _ (rules.more_names []) h.back.b (d.names, h.back.back)) h.back.is)
    ws h.is
begins (at_reset f ds n) ws h = head_parts f [] ds h.a h.front (at n Reset ∷ []) (token_whole n Reset (by_nothing _)) ws (with_last (at n Reset ∷ []) ws h)
begins (after_reset f s) ws h = reset_in f s ws h
begins (at_state f s) ws h = same rules.file (file_in f s ws h [] (nothing (rules.state f))) (at_the_end ws)
begins (at_state_name f s n) ws h =
    same rules.file (file_in f s h.a h.front (at n State ∷ []) (by_parts (rules.state f) (rules.one_state f []) (token_whole n State (by_nothing _))))
    (with_last (at n State ∷ []) ws h)
begins (after_state_name d) ws h = named_in d ws h
begins (at_transition d) ws h = transition_in d ws h [] (nothing (rules.transition d.format)) ws (at_the_end ws)
begins (at_target d n g) ws h = transition_in d h.a h.front h.b
    (whole_first (rules.transition d.format) rules.condition _ (rules.one_transition d.format []) h.b (n, g, h.back)) ws h.is
begins (after_target o) ws h = target_in o ws h
begins (at_assignment o) ws h = (within (at_assignment o) ws h refl).begins
begins (at_port o) ws h = (within (at_port o) ws h refl).begins
begins (after_assignment_name o x) ws h = (within (after_assignment_name o x) ws h refl).begins
begins (at_equals o d) ws h = (within (at_equals o d) ws h refl).begins
begins (at_unit k) ws h = (within (at_unit k) ws h refl).begins
begins (after_conjunction c k) ws h = (within (after_conjunction c k) ws h refl).begins
begins (after_guard g k) ws h = (within (after_guard g k) ws h refl).begins
begins (at_factor k) ws h = (within (at_factor k) ws h refl).begins
begins (after_name x k) ws h = (within (after_name x k) ws h refl).begins
begins (after_product p k) ws h = (within (after_product p k) ws h refl).begins
begins (after_sum s k) ws h = (within (after_sum s k) ws h refl).begins

-- ---- the laws

-- Words that lead somewhere begin a file.
pub leads : (ws : List Word) (s : ParseState) → walk ws at_start ≡ Some s → BeginsFile ws
leads ws s e = begins s ws (reached ws s at_start [] refl e)

on_append : (o : Option ParseState) (a b : List Word) → ((m : ParseState) → walk (a ++ b) m ≡ and_then (walk a m) (walk b))
    → and_then o (walk (a ++ b)) ≡ and_then (and_then o (walk a)) (walk b)
on_append None a b h = refl
on_append (Some m) a b h = h m

pub walk_append : (a b : List Word) (s : ParseState) → walk (a ++ b) s ≡ and_then (walk a s) (walk b)
walk_append [] b s = refl
walk_append (at n t ∷ a) b s = on_append (machine.step s n t) a b (λ m. walk_append a b m)

-- Words before which the reading sticks begin no file.
pub stuck : (ws : List Word) → walk ws at_start ≡ None → BeginsFile ws → ⊥
stuck ws e p =
    let w = completed rules.file ws p in
    let c = complete w.1.0 w.1.1 (ws ++ w.0) w.1.2 in
    let n : source_at (ws ++ w.0) ≡ None = rw (walk_append ws w.0 at_start, e) refl in
    cc
