-- Operators stand in guards and assignments, which are what is read since a word after which one begins.
use Rattle.std.proofs.Common.{◌≡◌, ℕ, Bool, true, false, List, [], ◌∷◌, ◌++◌, Option, Some, None, refl, sym, ap, subst, ◌∙◌, append_assoc}
use Rattle.std.specs.Prelude.{IsTrue, IfSome, not, ◌||◌}
use Rattle.std.specs.List.{AllByRecursion}
use Rattle.fs_model.specs.Expressions.{Assignment}
use Rattle.fs_grammar.specs.declared.format.Format.{Format}
use Rattle.fs_grammar.specs.declared.format.Format.TheVariants.{One, Two}
use Rattle.fs_grammar.specs.declared.token.TokenKind.{TokenKind}
use Rattle.fs_grammar.specs.declared.token.TokenKind.TheVariants.{Fsmd, Declare, Array, Reset, State, When, Goto, Port, Name, Number, Semicolon, Colon, Comma}
use Rattle.fs_grammar.specs.declared.token.TokenKind.TheVariants.{Equals}
use Rattle.fs_grammar.specs.declared.token.Token.{Token}
use Rattle.fs_grammar.specs.Operators.{is_operator, starts_expression}
use Rattle.fs_grammar.specs.Formats.{format_of}
use Rattle.fs_grammar.specs.Grammar.{OpenState, ParseState, at_start, at_format, at_semicolon, at_declaration, at_sort, at_declared, after_declared, at_reset}
use Rattle.fs_grammar.specs.Grammar.{after_reset, at_state, at_state_name, after_state_name, at_transition, at_target, after_target, at_assignment, at_port}
use Rattle.fs_grammar.specs.Grammar.{after_assignment_name, at_equals, at_unit, after_conjunction, after_guard, at_factor, after_name, after_product, after_sum}
use Rattle.fs_grammar.specs.Grammar.{in_format_two, step_format, step_transition, step}
use Rattle.fs_grammar.specs.Spelling.{Word, at, IsAssignment, assign, emit}
use Rattle.fs_grammar.specs.WordWalks.{words, walk}
use Rattle.fs_grammar.specs.Beginnings as rules
use Rattle.fs_grammar.specs.Beginnings.{Begins, BeginsFile}
use Rattle.fs_grammar.specs.ExpressionEnds.{IsInExpression, in_guard, in_first, in_next, starts, IsSince, EndInExpression}
use Rattle.fs_grammar.specs.Faults.{word_of, CanFollow}
use Rattle.fs_grammar.proofs.Alternatives.{completed}
use Rattle.fs_grammar.proofs.Inside.{is_inside, IsInside, AreInside, joined, front, each, sum_inside, guard_inside, destination_inside}
use Rattle.fs_grammar.proofs.Sound.{reached}
use Rattle.fs_grammar.proofs.Beginning.{is_in_expression, within, stuck, walk_append}

-- ---- where a token is an operator, a guard or an assignment is being read

always : (b : Bool) (o : Option ParseState) → IfSome o (λ r. IsTrue (true || b))
always b None = tt
always b (Some r) = refl

format_outside : (o : Option Format) → IfSome (step_format o) (λ r. IsTrue (false || not false))
format_outside None = tt
format_outside (Some f) = refl

two_outside : (f : Format) (s : ParseState) → IfSome (in_format_two f s) (λ r. IsTrue (false || not false))
two_outside One s = tt
two_outside Two s = refl

transition_outside : (t : TokenKind) (n : ℕ) (d : OpenState) → IfSome (step_transition n t d) (λ r. IsTrue (false || not (is_operator t)))
transition_outside When n d = refl
transition_outside Goto n d = refl
transition_outside State n d = refl
transition_outside _ n d = tt

stands : (s : ParseState) (n : ℕ) (t : TokenKind) → IfSome (step s n t) (λ r. IsTrue (is_in_expression s || not (is_operator t)))
stands at_start n Fsmd = refl
stands at_start n _ = tt
stands at_format n (Number i) = format_outside (format_of i)
stands at_format n _ = tt
stands (at_semicolon f) n Semicolon = refl
stands (at_semicolon f) n _ = tt
stands (at_declaration f ds) n (Declare r) = refl
stands (at_declaration f ds) n Port = two_outside f _
stands (at_declaration f ds) n Reset = refl
stands (at_declaration f ds) n _ = tt
stands (at_sort f ds m r) n Array = refl
stands (at_sort f ds m r) n (Name x) = refl
stands (at_sort f ds m r) n _ = tt
stands (at_declared f ds d) n (Name x) = refl
stands (at_declared f ds d) n _ = tt
stands (after_declared f ds d) n Comma = refl
stands (after_declared f ds d) n Semicolon = refl
stands (after_declared f ds d) n _ = tt
stands (at_reset f ds m) n (Name x) = refl
stands (at_reset f ds m) n _ = tt
stands (after_reset f s) n Semicolon = refl
stands (after_reset f s) n _ = tt
stands (at_state f s) n State = refl
stands (at_state f s) n _ = tt
stands (at_state_name f s m) n (Name x) = refl
stands (at_state_name f s m) n _ = tt
stands (after_state_name d) n Colon = refl
stands (after_state_name d) n _ = tt
stands (at_transition d) n t = transition_outside t n d
stands (at_target d m g) n (Name x) = refl
stands (at_target d m g) n _ = tt
stands (after_target o) n Colon = refl
stands (after_target o) n Semicolon = refl
stands (after_target o) n _ = tt
stands (at_assignment o) n t = always (not (is_operator t)) (step (at_assignment o) n t)
stands (at_port o) n t = always (not (is_operator t)) (step (at_port o) n t)
stands (after_assignment_name o x) n t = always (not (is_operator t)) (step (after_assignment_name o x) n t)
stands (at_equals o d) n t = always (not (is_operator t)) (step (at_equals o d) n t)
stands (at_unit k) n t = always (not (is_operator t)) (step (at_unit k) n t)
stands (after_conjunction c k) n t = always (not (is_operator t)) (step (after_conjunction c k) n t)
stands (after_guard g k) n t = always (not (is_operator t)) (step (after_guard g k) n t)
stands (at_factor k) n t = always (not (is_operator t)) (step (at_factor k) n t)
stands (after_name x k) n t = always (not (is_operator t)) (step (after_name x k) n t)
stands (after_product e k) n t = always (not (is_operator t)) (step (after_product e k) n t)
stands (after_sum e k) n t = always (not (is_operator t)) (step (after_sum e k) n t)

first_true : (a b : Bool) → IsTrue b → IsTrue (a || not b) → IsTrue a
first_true true b h j = refl
first_true false true h j = absurd cc
first_true false false h j = absurd cc

-- what was read before an operator that can follow
operator_at : (s : ParseState) (ws : List Word) (n : ℕ) (t : TokenKind) (o : Option ParseState) → step s n t ≡ o → walk ws at_start ≡ Some s
    → IsTrue (is_operator t) → IfSome o (λ r. IsTrue (is_in_expression s || not (is_operator t))) → (walk (ws ++ at n t ∷ []) at_start ≡ None → ⊥)
    → (part : List Word) × IsInExpression ws part
operator_at s ws n t None e w i h go = absurd (go (walk_append ws (at n t ∷ []) at_start ∙ rw (w, e) refl))
operator_at s ws n t (Some r) e w i h go =
    let k = within s ws (reached ws s at_start [] refl w) (first_true (is_in_expression s) (is_operator t) i h) in
    (k.part, k.is)

operator_walks : (o : Option ParseState) (ws : List Word) (n : ℕ) (t : TokenKind) → walk ws at_start ≡ o → IsTrue (is_operator t)
    → BeginsFile (ws ++ at n t ∷ []) → (part : List Word) × IsInExpression ws part
operator_walks None ws n t e i b = absurd (stuck (ws ++ at n t ∷ []) (walk_append ws (at n t ∷ []) at_start ∙ rw e refl) b)
operator_walks (Some s) ws n t e i b = operator_at s ws n t (step s n t) refl e i (stands s n t) (λ w. stuck (ws ++ at n t ∷ []) w b)

-- An operator that can follow words is behind a part of a guard or of an assignment.
pub operator_stands : (ws : List Word) (n : ℕ) (t : TokenKind) → IsTrue (is_operator t) → BeginsFile (ws ++ at n t ∷ [])
    → (part : List Word) × IsInExpression ws part
operator_stands ws n t i b = operator_walks (walk ws at_start) ws n t refl i b

-- ---- no guard and no assignment has a word after which one begins

abbrev StartsNone : Word → Type 0
StartsNone w = starts w ≡ false

starts_none : (n : ℕ) (t : TokenKind) → is_inside t ≡ true → starts_expression t ≡ false
starts_none n When h = absurd cc
starts_none n Colon h = absurd cc
starts_none n Comma h = absurd cc
starts_none n _ h = refl

word_starts_none : (w : Word) → IsInside w → StartsNone w
word_starts_none (at n t) h = starts_none n t h

none_starts : (ws : List Word) → AreInside ws → AllByRecursion StartsNone ws
none_starts ws h = each IsInside StartsNone word_starts_none ws h

assignment_starts : (f : Format) (x : Assignment (List ℕ)) (a : List Word) → IsAssignment f x a → AllByRecursion StartsNone a
assignment_starts _ _ _ (assign f n {d} {e} {a} {b} p q) = joined StartsNone a (at n Equals ∷ b) (none_starts a (destination_inside d a p))
    (refl, none_starts b (sum_inside e b q))
assignment_starts _ _ _ (emit n m x {e} {a} p) = (refl, (refl, none_starts a (sum_inside e a p)))

guard_begun : (a : List Word) → Begins rules.guard a → AllByRecursion StartsNone a
guard_begun a b = let w = completed rules.guard a b in front StartsNone a w.0 (none_starts (a ++ w.0) (guard_inside w.1.0 (a ++ w.0) w.1.1))

assignment_begun : (f : Format) (a : List Word) → Begins (rules.assignment f) a → AllByRecursion StartsNone a
assignment_begun f a b = let w = completed (rules.assignment f) a b in front StartsNone a w.0 (assignment_starts f w.1.0 (a ++ w.0) w.1.1)

-- The part is what stands behind the last word after which a guard or an assignment begins.
pub since : (ws part : List Word) → IsInExpression ws part → IsSince ws part
since _ _ (in_guard before n {part} b) = record { before = before; word = at n When; is = refl; begins = refl; inside = guard_begun part b }
since _ _ (in_first f before n m k x {part} b) = record {
  before = before ++ (at n Goto ∷ at m (Name x) ∷ []);
  word = at k Colon;
  is = simp append_assoc;
  begins = refl;
  inside = assignment_begun f part b;
}
since _ _ (in_next f before n m k l x {a} {part} h b) = record {
  before = before ++ (at n Goto ∷ at m (Name x) ∷ at k Colon ∷ a);
  word = at l Comma;
  is = simp append_assoc;
  begins = refl;
  inside = assignment_begun f part b;
}

not_inside : (y : List Word) (v : Word) (q : List Word) → starts v ≡ true → AllByRecursion StartsNone (y ++ v ∷ q) → ⊥
not_inside [] v q h j = let n = j.0 in absurd cc
not_inside (w ∷ y) v q h j = not_inside y v q h j.1

one_cut : (x y : List Word) (u v : Word) (p q : List Word) → starts u ≡ true → starts v ≡ true → AllByRecursion StartsNone p → AllByRecursion StartsNone q
    → x ++ u ∷ p ≡ y ++ v ∷ q → p ≡ q
one_cut [] [] u v p q h j a b e = cc
one_cut [] (w ∷ y) u v p q h j a b e =
    let tails : p ≡ y ++ v ∷ q = cc in
    absurd (not_inside y v q j (subst (λ (l : List Word). AllByRecursion StartsNone l) tails a))
one_cut (w ∷ x) [] u v p q h j a b e =
    let tails : q ≡ x ++ u ∷ p = cc in
    absurd (not_inside x u p h (subst (λ (l : List Word). AllByRecursion StartsNone l) tails b))
one_cut (w ∷ x) (z ∷ y) u v p q h j a b e =
    let tails : x ++ u ∷ p ≡ y ++ v ∷ q = cc in
    one_cut x y u v p q h j a b tails

-- Words end in one part at most.
pub one_part : (ws p q : List Word) → IsInExpression ws p → IsInExpression ws q → p ≡ q
one_part ws p q h j =
    let a = since ws p h in
    let b = since ws q j in
    one_cut a.before b.before a.word b.word p q a.begins b.begins a.inside b.inside (sym a.is ∙ b.is)

-- ---- tokens

-- tokens whose words are cut at a word
record IsCutAt (ts : List Token) (word : Word) (behind : List Word) : Type 0 where
  before : List Token
  token : Token
  part : List Token
  is : ts ≡ before ++ token ∷ part
  same : word_of token ≡ word
  words : words part ≡ behind

cut_more : (t : Token) (ts : List Token) (w : Word) (p : List Word) → IsCutAt ts w p → IsCutAt (t ∷ ts) w p
cut_more t ts w p c = record { before = t ∷ c.before; token = c.token; part = c.part; is = ap (λ (l : List Token). t ∷ l) c.is; same = c.same; words = c.words }

cut_at : (ts : List Token) (b : List Word) (w : Word) (p : List Word) → words ts ≡ b ++ w ∷ p → IsCutAt ts w p
cut_at [] [] w p e = absurd cc
cut_at [] (v ∷ b) w p e = absurd cc
cut_at (t ∷ ts) [] w p e =
    let heads : word_of t ≡ w = cc in
    let tails : words ts ≡ p = cc in
    record { before = []; token = t; part = ts; is = refl; same = heads; words = tails }
cut_at (t ∷ ts) (v ∷ b) w p e =
    let tails : words ts ≡ b ++ w ∷ p = cc in
    cut_more t ts w p (cut_at ts b w p tails)

tokens_inside : (ts : List Token) → AllByRecursion StartsNone (words ts) → AllByRecursion (λ t. starts_expression t.kind ≡ false) ts
tokens_inside [] h = tt
tokens_inside (t ∷ ts) h = (h.0, tokens_inside ts h.1)

-- Tokens behind which an operator can follow end in a part of a guard or of an assignment.
pub tokens_end : (ts : List Token) (t : Token) → IsTrue (is_operator t.kind) → CanFollow (words ts) t → (part : List Token) × EndInExpression ts part
tokens_end ts t i b =
    let e = operator_stands (words ts) t.place.line t.kind i b in
    let s = since (words ts) e.0 e.1 in
    let c = cut_at ts s.before s.word e.0 s.is in (
      c.part,
      record {
        since =
            record {
              before = c.before;
              token = c.token;
              is = c.is;
              begins = ap starts c.same ∙ s.begins;
              inside = tokens_inside c.part (subst (λ (l : List Word). AllByRecursion StartsNone l) (sym c.words) s.inside);
            };
        expression = subst (λ (l : List Word). IsInExpression (words ts) l) (sym c.words) e.1;
      },
    )
