-- What the pass over the tokens has counted behind words.
use Rattle.std.proofs.Common.{◌≡◌, ℕ, ◌+◌, List, [], ◌∷◌, ◌++◌, refl, sym, ap, subst, ◌∙◌, cond, arith}
use Rattle.std.specs.Prelude.{Bool, true, false, ◌&&◌, nat_le}
use Rattle.fs_model.specs.Expressions.{Expression, Guard, Assignment}
use Rattle.fs_model.specs.Source.{Declaration}
use Rattle.fs_grammar.specs.declared.format.Format.TheVariants.{One}
use Rattle.fs_grammar.specs.declared.token.TokenKind.{TokenKind}
use Rattle.fs_grammar.specs.declared.token.TokenKind.TheVariants.{If, Else, While, Name, Number, Semicolon, Equals, OpenParen, CloseParen, OpenBracket}
use Rattle.fs_grammar.specs.declared.token.TokenKind.TheVariants.{CloseBracket, OpenBrace, CloseBrace, Plus, Minus, Star, Slash, Percent, Bang, AndAnd, OrOr}
use Rattle.fs_grammar.specs.declared.token.TokenKind.TheVariants.{Relation}
use Rattle.fs_grammar.specs.Operators.{is_operator}
use Rattle.fs_grammar.specs.Grammar.{Destination}
use Rattle.fs_grammar.specs.Spelling as grammar
use Rattle.fs_grammar.specs.Spelling.{Word, at, IsFactor, IsProduct, IsSum, IsUnit, IsConjunction, IsGuard, IsDestination, IsAssignment, IsDeclaration}
use Rattle.fs_grammar.specs.Spelling.{AreDeclarations}
use Rattle.hls_program_parts.specs.Programs.{Block}
use Rattle.hls_program_parts.specs.Marks.{opens_relation, is_counted, starts_anew, operators_up_to, is_past_program_limit}
use Rattle.hls_program_parts.specs.ProgramSpelling.{IsStatement, assigns, chooses, chooses_else, repeats, IsBlock, block, AreStatements, no_statements}
use Rattle.hls_program_parts.specs.ProgramSpelling.{more_statements}
use Rattle.hls_program_parts.specs.ProgramBeginnings.{OpensBlock, outermost, yes_block, no_block, body, IsInBlock, opened, IsInProgramExpression, in_choice}
use Rattle.hls_program_parts.specs.ProgramBeginnings.{in_repetition, in_assignment}
use Rattle.hls_program_parts.specs.ProgramLimits.{word_operator_count, IsOneTooManyInProgram}

-- ---- along words

-- whether a unit of a guard may begin behind the words
abbrev pub unit_behind : Bool → List Word → Bool
unit_behind u [] = u
unit_behind u (at n t ∷ ws) = unit_behind (opens_relation u t) ws

-- how many operators were counted behind them, where k were before
abbrev pub count_behind : Bool → ℕ → List Word → ℕ
count_behind u k [] = k
count_behind u k (at n t ∷ ws) = count_behind (opens_relation u t) (operators_up_to u t k) ws

pub unit_append : (a b : List Word) (u : Bool) → unit_behind u (a ++ b) ≡ unit_behind (unit_behind u a) b
unit_append [] b u = refl
unit_append (at n t ∷ a) b u = unit_append a b (opens_relation u t)

pub count_append : (a b : List Word) (u : Bool) (k : ℕ) → count_behind u k (a ++ b) ≡ count_behind (unit_behind u a) (count_behind u k a) b
count_append [] b u k = refl
count_append (at n t ∷ a) b u k = count_append a b (opens_relation u t) (operators_up_to u t k)

-- ---- words with which no guard and no assignment begins anew

abbrev IsCalm : Bool → List Word → Type 0
IsCalm u [] = Unit {0}
IsCalm u (at n t ∷ ws) = (starts_anew u t ≡ false) × IsCalm (opens_relation u t) ws

-- Such words, and whether a unit may begin behind them.
record Calm (u : Bool) (ws : List Word) (v : Bool) : Type 0 where
  calm : IsCalm u ws
  leads : unit_behind u ws ≡ v

calm_append : (a b : List Word) (u : Bool) → IsCalm u a → IsCalm (unit_behind u a) b → IsCalm u (a ++ b)
calm_append [] b u h k = k
calm_append (at n t ∷ a) b u h k = (h.0, calm_append a b (opens_relation u t) h.1 k)

calm_front : (a b : List Word) (u : Bool) → IsCalm u (a ++ b) → IsCalm u a
calm_front [] b u h = tt
calm_front (at n t ∷ a) b u h = (h.0, calm_front a b (opens_relation u t) h.1)

calm_back : (a b : List Word) (u : Bool) → IsCalm u (a ++ b) → IsCalm (unit_behind u a) b
calm_back [] b u h = h
calm_back (at n t ∷ a) b u h = calm_back a b (opens_relation u t) h.1

join : (u v w : Bool) (a b : List Word) → Calm u a v → Calm v b w → Calm u (a ++ b) w
join u v w a b h k = record {
  calm = calm_append a b u h.calm (subst (λ (x : Bool). IsCalm x b) (sym h.leads) k.calm);
  leads = unit_append a b u ∙ ap (λ (x : Bool). unit_behind x b) h.leads ∙ k.leads;
}

word : (n : ℕ) (t : TokenKind) (u v : Bool) (ws : List Word) → starts_anew u t ≡ false → Calm (opens_relation u t) ws v → Calm u (at n t ∷ ws) v
word n t u v ws e h = record { calm = (e, h.calm); leads = h.leads }

last : (n : ℕ) (t : TokenKind) (u v : Bool) → starts_anew u t ≡ false → opens_relation u t ≡ v → Calm u (at n t ∷ []) v
last n t u v e q = record { calm = (e, tt); leads = q }

mutual
  factor_calm : (f : Expression (List ℕ)) (a : List Word) → IsFactor f a → (u : Bool) → Calm u a false
  factor_calm _ _ (grammar.number n i) u = last n (Number i) u false refl refl
  factor_calm _ _ (grammar.variable n x) u = last n (Name x) u false refl refl
  factor_calm _ _ (grammar.read n m k x {s} {a} d) u =
      word n (Name x) u false (at m OpenBracket ∷ (a ++ at k CloseBracket ∷ [])) refl
      (word m OpenBracket false false (a ++ at k CloseBracket ∷ []) refl
      (join false false false a (at k CloseBracket ∷ []) (sum_calm s a d false) (last k CloseBracket false false refl refl)))
  factor_calm _ _ (grammar.negative n {f} {a} d) u = word n Minus u false a refl (factor_calm f a d false)
  factor_calm _ _ (grammar.group n m {s} {a} d) u = word n OpenParen u false (a ++ at m CloseParen ∷ []) refl
      (join false false false a (at m CloseParen ∷ []) (sum_calm s a d false) (last m CloseParen false false refl refl))

  product_calm : (p : Expression (List ℕ)) (a : List Word) → IsProduct p a → (u : Bool) → Calm u a false
  product_calm _ _ (grammar.factor {f} {a} d) u = factor_calm f a d u
  product_calm _ _ (grammar.times n {p} {f} {a} {b} d e) u = join u false false a (at n Star ∷ b) (product_calm p a d u)
      (word n Star false false b refl (factor_calm f b e false))
  product_calm _ _ (grammar.divides n {p} {f} {a} {b} d e) u =
      join u false false a (at n Slash ∷ b) (product_calm p a d u) (word n Slash false false b refl (factor_calm f b e false))
  product_calm _ _ (grammar.remainder_of n {p} {f} {a} {b} d e) u =
      join u false false a (at n Percent ∷ b) (product_calm p a d u) (word n Percent false false b refl (factor_calm f b e false))

  sum_calm : (s : Expression (List ℕ)) (a : List Word) → IsSum s a → (u : Bool) → Calm u a false
  sum_calm _ _ (grammar.product {p} {a} d) u = product_calm p a d u
  sum_calm _ _ (grammar.plus n {s} {p} {a} {b} d e) u = join u false false a (at n Plus ∷ b) (sum_calm s a d u)
      (word n Plus false false b refl (product_calm p b e false))
  sum_calm _ _ (grammar.minus n {s} {p} {a} {b} d e) u = join u false false a (at n Minus ∷ b) (sum_calm s a d u)
      (word n Minus false false b refl (product_calm p b e false))

mutual
  unit_calm : (u : Guard (List ℕ)) (a : List Word) → IsUnit u a → Calm true a false
  unit_calm _ _ (grammar.not n {u} {a} d) = word n Bang true false a refl (unit_calm u a d)
  unit_calm _ _ (grammar.braces n m {g} {a} d) = word n OpenBrace true false (a ++ at m CloseBrace ∷ []) refl
      (join true false false a (at m CloseBrace ∷ []) (guard_calm g a d) (last m CloseBrace false false refl refl))
  unit_calm _ _ (grammar.literal n r {l} {s} {a} {b} d e) = join true false false a (at n (Relation r) ∷ b) (sum_calm l a d true)
      (word n (Relation r) false false b refl (sum_calm s b e false))

  conjunction_calm : (c : Guard (List ℕ)) (a : List Word) → IsConjunction c a → Calm true a false
  conjunction_calm _ _ (grammar.unit {u} {a} d) = unit_calm u a d
  conjunction_calm _ _ (grammar.and n {c} {u} {a} {b} d e) = join true false false a (at n AndAnd ∷ b) (conjunction_calm c a d)
      (word n AndAnd false false b refl (unit_calm u b e))

  guard_calm : (g : Guard (List ℕ)) (a : List Word) → IsGuard g a → Calm true a false
  guard_calm _ _ (grammar.conjunction {c} {a} d) = conjunction_calm c a d
  guard_calm _ _ (grammar.or n {g} {c} {a} {b} d e) = join true false false a (at n OrOr ∷ b) (guard_calm g a d)
      (word n OrOr false false b refl (conjunction_calm c b e))

-- behind a guard no unit begins
pub guard_unit : (g : Guard (List ℕ)) (a : List Word) → IsGuard g a → unit_behind true a ≡ false
guard_unit g a h = (guard_calm g a h).leads

destination_calm : (d : Destination) (a : List Word) → IsDestination d a → Calm false a false
destination_calm _ _ (grammar.scalar_name n x) = last n (Name x) false false refl refl
destination_calm _ _ (grammar.element_at n m k x {s} {a} d) =
    word n (Name x) false false (at m OpenBracket ∷ (a ++ at k CloseBracket ∷ [])) refl
    (word m OpenBracket false false (a ++ at k CloseBracket ∷ []) refl
    (join false false false a (at k CloseBracket ∷ []) (sum_calm s a d false) (last k CloseBracket false false refl refl)))

assignment_calm : (x : Assignment (List ℕ)) (a : List Word) → IsAssignment One x a → Calm false a false
assignment_calm _ _ (grammar.assign _ n {d} {e} {a} {b} p q) =
    join false false false a (at n Equals ∷ b) (destination_calm d a p) (word n Equals false false b refl (sum_calm e b q false))

-- ---- what is counted along such words

pub operator_counted : (t : TokenKind) (u : Bool) → starts_anew u t ≡ false → is_counted u t ≡ is_operator t
operator_counted OpenBrace true h = refl
operator_counted OpenBrace false h = absurd cc
operator_counted _ u h = refl

counted_by : (s c o : Bool) (k : ℕ) → s ≡ false → c ≡ o → cond s 0 (cond c (k + 1) k) ≡ k + cond o 1 0
counted_by true c o k e f = absurd cc
counted_by false true true k e f = refl
counted_by false false false k e f = omega arith
counted_by false true false k e f = absurd cc
counted_by false false true k e f = absurd cc

calm_counts : (ws : List Word) (u : Bool) (k : ℕ) → IsCalm u ws → count_behind u k ws ≡ k + word_operator_count ws
calm_counts [] u k h = omega arith
calm_counts (at n t ∷ ws) u k h =
    let one : operators_up_to u t k ≡ k + cond (is_operator t) 1 0 =
    counted_by (starts_anew u t) (is_counted u t) (is_operator t) k h.0 (operator_counted t u h.0) in
    omega (arith, one, calm_counts ws (opens_relation u t) (operators_up_to u t k) h.1)

-- ---- behind statements and blocks nothing is counted

-- Words behind which nothing is counted, whatever was before.
record Settles (ws : List Word) : Type 0 where
  unit : unit_behind false ws ≡ false
  none : (k : ℕ) → count_behind false k ws ≡ 0

-- Words behind which nothing is counted, where nothing was before.
pub record IsSettled (ws : List Word) : Type 0 where
  pub unit : unit_behind false ws ≡ false
  pub none : count_behind false 0 ws ≡ 0

-- behind a unit that may begin, calm words and then these
settles_behind : (a b : List Word) (u : Bool) → unit_behind u a ≡ false → Settles b → (k : ℕ)
    → (unit_behind u (a ++ b) ≡ false) × (count_behind u k (a ++ b) ≡ 0)
settles_behind a b u e h k = (
  unit_append a b u ∙ ap (λ (x : Bool). unit_behind x b) e ∙ h.unit,
  count_append a b u k ∙ ap (λ (x : Bool). count_behind x (count_behind u k a) b) e ∙ h.none (count_behind u k a),
)

settles_end : (a : List Word) (m : ℕ) → Settles (a ++ at m Semicolon ∷ [])
settles_end a m = record { unit = unit_append a (at m Semicolon ∷ []) false; none = λ k. count_append a (at m Semicolon ∷ []) false k }

block_settles_by : (n m : ℕ) (a : List Word) → IsSettled a → Settles (at n OpenBrace ∷ (a ++ at m CloseBrace ∷ []))
block_settles_by n m a h = record {
  unit = unit_append a (at m CloseBrace ∷ []) false;
  none = λ k. count_append a (at m CloseBrace ∷ []) false 0 ∙ ap (λ (x : Bool). count_behind x (count_behind false 0 a) (at m CloseBrace ∷ [])) h.unit ∙ h.none;
}

else_settles : (b c : List Word) (m : ℕ) → Settles b → Settles c → Settles (b ++ (at m Else ∷ c))
else_settles b c m h k = record {
  unit = unit_append b (at m Else ∷ c) false ∙ ap (λ (x : Bool). unit_behind x (at m Else ∷ c)) h.unit ∙ k.unit;
  none = λ j. count_append b (at m Else ∷ c) false j ∙ ap (λ (x : Bool). count_behind x (count_behind false j b) (at m Else ∷ c)) h.unit ∙ k.none _;
}

mutual
  statement_settles : (s : Block (List ℕ)) (a : List Word) → IsStatement s a → Settles a
  statement_settles _ _ (assigns m {a} p) = settles_end a m
  statement_settles _ _ (chooses n {g} {y} {a} {b} p q) =
      let h : Settles b = block_settles y b q in
      record { unit = (settles_behind a b true (guard_unit g a p) h 0).0; none = λ k. (settles_behind a b true (guard_unit g a p) h 0).1 }
  statement_settles _ _ (chooses_else n m {g} {y} {z} {a} {b} {c} p q r) =
      let h : Settles (b ++ (at m Else ∷ c)) = else_settles b c m (block_settles y b q) (block_settles z c r) in
      record {
        unit = (settles_behind a (b ++ (at m Else ∷ c)) true (guard_unit g a p) h 0).0;
        none = λ k. (settles_behind a (b ++ (at m Else ∷ c)) true (guard_unit g a p) h 0).1;
      }
  statement_settles _ _ (repeats n {g} {y} {a} {b} p q) =
      let h : Settles b = block_settles y b q in
      record { unit = (settles_behind a b true (guard_unit g a p) h 0).0; none = λ k. (settles_behind a b true (guard_unit g a p) h 0).1 }

  block_settles : (s : Block (List ℕ)) (a : List Word) → IsBlock s a → Settles a
  block_settles _ _ (block n m {b} {a} p) = block_settles_by n m a (statements_settle b a p)

  statements_settle : (s : Block (List ℕ)) (a : List Word) → AreStatements s a → IsSettled a
  statements_settle _ _ no_statements = record { unit = refl; none = refl }
  statements_settle _ _ (more_statements {b} {s} {a} {c} p q) =
      let h : IsSettled a = statements_settle b a p in
      let k = settles_behind a c false h.unit (statement_settles s c q) 0 in
      record { unit = k.0; none = k.1 }

-- ---- declarations

declaration_unit : (d : Declaration) (a : List Word) → IsDeclaration One d a → (u : Bool) → unit_behind u a ≡ false
declaration_unit _ _ (grammar.declaration _ n m r s xs {a} {b} p q) u = unit_append a (b ++ at m Semicolon ∷ []) u
    ∙ unit_append b (at m Semicolon ∷ []) (unit_behind u a)

pub declarations_unit : (ds : List Declaration) (a : List Word) → AreDeclarations One ds a → unit_behind false a ≡ false
declarations_unit _ _ (grammar.no_declarations _) = refl
declarations_unit _ _ (grammar.more_declarations _ {ds} {d} {a} {b} p q) = unit_append a b false ∙ declaration_unit d b q (unit_behind false a)

-- ---- open blocks

-- words behind which `else` is the last
pub else_unit : (a : List Word) (n : ℕ) (u : Bool) → unit_behind u (a ++ at n Else ∷ []) ≡ false
else_unit a n u = unit_append a (at n Else ∷ []) u

pub opens_settled : (d : ℕ) (a : List Word) → OpensBlock d a → unit_behind false a ≡ false
opens_settled _ _ (outermost n m {ds} {a} p) = declarations_unit ds a p
opens_settled _ _ (yes_block d n {g} {a} {b} h p) = unit_append a (at n If ∷ b) false ∙ guard_unit g b p
opens_settled _ _ (no_block d n m {g} {y} {a} {b} {c} h p q) = unit_append a (at n If ∷ (b ++ (c ++ at m Else ∷ []))) false
    ∙ unit_append b (c ++ at m Else ∷ []) true ∙ else_unit c m (unit_behind true b)
opens_settled _ _ (body d n {g} {a} {b} h p) = unit_append a (at n While ∷ b) false ∙ guard_unit g b p

pub in_block_settled : (d : ℕ) (a : List Word) → IsInBlock d a → IsSettled a
in_block_settled _ _ (opened d n {b} {a} {c} h p) =
    let k : IsSettled c = statements_settle b c p in
    let unit : unit_behind false a ≡ false = opens_settled d a h in
    record {
      unit = unit_append a (at n OpenBrace ∷ c) false ∙ ap (λ (x : Bool). unit_behind x (at n OpenBrace ∷ c)) unit ∙ k.unit;
      none = count_append a (at n OpenBrace ∷ c) false 0 ∙ ap (λ (x : Bool). count_behind x (count_behind false 0 a) (at n OpenBrace ∷ c)) unit ∙ k.none;
    }

-- ---- the guard or the assignment that words end in

-- What is counted is what the part has, and with what goes on behind it nothing begins anew.
pub record InPart (ws part more : List Word) : Type 0 where
  pub counts : count_behind false 0 ws ≡ word_operator_count part
  pub goes : IsCalm (unit_behind false ws) more

from_none : (n m : ℕ) → n ≡ 0 + m → n ≡ m
from_none n m e = omega (arith, e)

guard_counts : (a part more : List Word) (n : ℕ) (t : TokenKind) → ((u : Bool) → opens_relation u t ≡ true) → ((u : Bool) (k : ℕ) → operators_up_to u t k ≡ 0)
    → Calm true (part ++ more) false → InPart (a ++ (at n t ∷ part)) part more
guard_counts a part more n t e f c =
    let u = unit_behind false a in
    let unit : unit_behind false (a ++ (at n t ∷ part)) ≡ unit_behind true part = unit_append a (at n t ∷ part) false
    ∙ ap (λ (x : Bool). unit_behind x part) (e u) in
    record {
      counts = from_none (count_behind false 0 (a ++ (at n t ∷ part))) (word_operator_count part)
          (count_append a (at n t ∷ part) false 0 ∙ ap (λ (x : Bool). count_behind x (operators_up_to u t (count_behind false 0 a)) part) (e u)
          ∙ ap (λ (k : ℕ). count_behind true k part) (f u (count_behind false 0 a))
          ∙ calm_counts part true 0 (calm_front part more true c.calm));
      goes = subst (λ (x : Bool). IsCalm x more) (sym unit) (calm_back part more true c.calm);
    }

pub part_counts : (ws part more : List Word) → IsInProgramExpression ws part more → InPart ws part more
part_counts _ _ _ (in_choice d n {g} {a} {part} {more} h p) = guard_counts a part more n If (λ u. refl) (λ u k. refl) (guard_calm g (part ++ more) p)
part_counts _ _ _ (in_repetition d n {g} {a} {part} {more} h p) = guard_counts a part more n While (λ u. refl) (λ u k. refl) (guard_calm g (part ++ more) p)
part_counts _ _ _ (in_assignment d {x} {a} {part} {more} h p) =
    let s : IsSettled a = in_block_settled d a h in
    let c : Calm false (part ++ more) false = assignment_calm x (part ++ more) p in
    let unit : unit_behind false (a ++ part) ≡ unit_behind false part = unit_append a part false ∙ ap (λ (x : Bool). unit_behind x part) s.unit in
    record {
      counts = from_none (count_behind false 0 (a ++ part)) (word_operator_count part)
          (count_append a part false 0 ∙ ap (λ (x : Bool). count_behind x (count_behind false 0 a) part) s.unit
          ∙ ap (λ (k : ℕ). count_behind false k part) s.none ∙ calm_counts part false 0 (calm_front part more false c.calm));
      goes = subst (λ (x : Bool). IsCalm x more) (sym unit) (calm_back part more false c.calm);
    }

past_by : (c o : Bool) (k : ℕ) → c ≡ o → o ≡ true → k ≡ 128 → (c && nat_le 128 k) ≡ true
past_by c o k e f g = rw (e, f, g) refl

-- a word that is one too many is past the limit
pub excess_marked : (ws : List Word) (n : ℕ) (t : TokenKind) → IsOneTooManyInProgram ws (at n t)
    → is_past_program_limit (unit_behind false ws) t (count_behind false 0 ws) ≡ true
excess_marked ws n t x =
    let p : InPart ws x.part (at n t ∷ x.behind) = part_counts ws x.part (at n t ∷ x.behind) x.expression in
    past_by (is_counted (unit_behind false ws) t) (is_operator t) (count_behind false 0 ws)
    (operator_counted t (unit_behind false ws) p.goes.0) x.operator (p.counts ∙ x.full)
