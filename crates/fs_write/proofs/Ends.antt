-- Where a part ends without a token of its own, what follows reads alike.
use Rattle.std.proofs.Common.{◌≡◌, ℕ, List, [], ◌∷◌, Some, Result, refl, sym, ◌∙◌}
use Rattle.fs_model.specs.declared.parts.Rel.{Rel}
use Rattle.fs_model.specs.Expressions.{Expression, Guard, Variable, Test}
use Rattle.fs_model.specs.Source.{Source}
use Rattle.fs_grammar.specs.declared.fault.TextFault.{TextFault}
use Rattle.fs_grammar.specs.declared.token.TokenKind.{TokenKind}
use Rattle.fs_grammar.specs.declared.token.Token.{Token}
use Rattle.fs_grammar.specs.Tokens.{kind_at}
use Rattle.fs_grammar.specs.PartEnds.{IsNoSum, IsNoProduct, IsNoAnd, IsNoIndex, IsNoBrace}
use Rattle.fs_grammar.specs.Grammar.{UnitContext, ConjunctionContext, FactorContext, first_factor, ProductContext, first_product, left, right, ParseState}
use Rattle.fs_grammar.specs.Grammar.{at_unit, after_conjunction, after_name, after_product, after_sum, factor_done, product_done, conjunction_done}
use Rattle.fs_grammar.specs.Grammar.{literal_done, step_factor, step, finish_source, reading}
use Rattle.fs_grammar.proofs.PartEnds.{literal_steps, conjunction_steps, product_steps, name_steps, unit_steps, unit_stops, conjunction_stops, product_stops}
use Rattle.fs_grammar.proofs.PartEnds.{factor_stops}
use Rattle.fs_write.proofs.Steps.{Reads, Follows}

-- two states read alike where each token leads both to the same, and both end alike
same_reading : (ts : List Token) (t : TokenKind) (a b : ParseState) → kind_at ts ≡ Some t → ((n : ℕ) → step a n t ≡ step b n t)
    → finish_source a ≡ finish_source b → reading ts a ≡ reading ts b
same_reading [] t a b k h e = refl
same_reading (u ∷ ts) t a b k h e = let is : u.kind ≡ t = cc in rw (is, h u.place.line, e) refl

same_reads : {line free : ℕ} {bytes : List ℕ} {r : Result Source TextFault} (t : TokenKind) (a b : ParseState) → Follows bytes t
    → ((n : ℕ) → step a n t ≡ step b n t) → finish_source a ≡ finish_source b → Reads line free bytes b r → Reads line free bytes a r
same_reads t a b f h e d = record { so = λ column n g. same_reading _ t a b (f.first _ n) h e ∙ d.so column n g }

-- ---- parts that end without a token of their own

-- a literal ends where its second sum does
pub literal_ends : {line free : ℕ} {bytes : List ℕ} {v : Result Source TextFault} (t : TokenKind) (r : Rel) (l s : Expression (List ℕ)) (k : UnitContext)
    → Follows bytes t → IsNoSum (Some t) → Reads line free bytes (literal_done r l s k) v → Reads line free bytes (after_sum s (right r l k)) v
literal_ends t r l s k f h = same_reads t (after_sum s (right r l k)) (literal_done r l s k) f (λ n. literal_steps n t r l s k h)
    (sym (unit_stops (Test (record { relation = r; left = l; right = s })) k))

-- a conjunction ends where it does not go on
pub conjunction_ends : {line free : ℕ} {bytes : List ℕ} {v : Result Source TextFault} (t : TokenKind) (c : Guard (List ℕ)) (k : ConjunctionContext)
    → Follows bytes t → IsNoAnd (Some t) → Reads line free bytes (conjunction_done c k) v → Reads line free bytes (after_conjunction c k) v
conjunction_ends t c k f h = same_reads t (after_conjunction c k) (conjunction_done c k) f (λ n. conjunction_steps n t c k h) (sym (conjunction_stops c k))

-- a product ends where it does not go on
pub product_ends : {line free : ℕ} {bytes : List ℕ} {v : Result Source TextFault} (t : TokenKind) (p : Expression (List ℕ)) (k : ProductContext)
    → Follows bytes t
    → IsNoProduct (Some t) → Reads line free bytes (product_done p k) v → Reads line free bytes (after_product p k) v
product_ends t p k f h = same_reads t (after_product p k) (product_done p k) f (λ n. product_steps n t p k h) (sym (product_stops p k))

-- a name without an index is a variable
pub name_ends : {line free : ℕ} {bytes : List ℕ} {v : Result Source TextFault} (t : TokenKind) (x : List ℕ) (k : FactorContext) → Follows bytes t
    → IsNoIndex (Some t) → Reads line free bytes (factor_done (Variable x) k) v → Reads line free bytes (after_name x k) v
name_ends t x k f h = same_reads t (after_name x k) (factor_done (Variable x) k) f (λ n. name_steps n t x k h) (sym (factor_stops (Variable x) k))

-- ---- the beginnings of units

-- a token with which the state goes on as with a factor
abbrev pub BeginsFactor : ParseState → FactorContext → Type 0
BeginsFactor s k = (n : ℕ) (t : TokenKind) → IsNoBrace (Some t) → step s n t ≡ step_factor t k

pub unit_begins : (k : UnitContext) → BeginsFactor (at_unit k) (first_factor (first_product (left k)))
unit_begins k n t h = unit_steps n t k h
