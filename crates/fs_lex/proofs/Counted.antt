-- The tokens of a text are proper, the last one alone ends them, and operators are counted along them.
use Rattle.std.proofs.Common.{◌≡◌, ℕ, zero, suc, ◌-◌, ◌≤◌, Bool, true, false, cond, List, [], ◌∷◌, ◌++◌, refl, sym, ap, subst, ◌∙◌, arith}
use Rattle.std.specs.Prelude.{ℤ, pos, ◌≤ℤ◌, not, ◌&&◌, IsTrue}
use Rattle.std.specs.List.{All, AllByRecursion}
use Rattle.std.proofs.lemmas.List.Elements.{All-from_recursion}
use Rattle.fs_model.specs.Limits.{most_number}
use Rattle.fs_model.specs.Words.{is_name}
use Rattle.fs_grammar.specs.declared.fault.TextPlace.{TextPlace}
use Rattle.fs_grammar.specs.declared.token.TokenKind.{TokenKind}
use Rattle.fs_grammar.specs.declared.token.TokenKind.TheVariants.{Name, Number}
use Rattle.fs_grammar.specs.declared.token.Token.{Token}
use Rattle.fs_lex.specs.declared.lexemes.Lexeme.{Lexeme}
use Rattle.fs_lex.specs.declared.lexemes.Lexeme.TheVariants as lexemes
use Rattle.fs_lex.specs.Lexemes.{lexeme_of}
use Rattle.fs_lex.specs.Scan.{place_after_byte, scan, emit_token, is_past_limit, is_bad, operators_up_to_token, tokens_of}
use Rattle.fs_lex.specs.Vocabulary.{number_value}
use Rattle.fs_lex.specs.Tokenization.{StandsBefore, ends_text, AreTokens}
use Rattle.fs_lex.proofs.Tokenized.{tokenized}
use Rattle.fs_lex.specs.Kinds.{IsProper, end_once}

-- ---- the marks

-- each token is marked where it is an operator and 128 were counted before it, n of them before the first token
abbrev AreMarked : ℕ → List Token → Type 0
AreMarked n [] = Unit {0}
AreMarked n (t ∷ ts) = (t.past_limit ≡ is_past_limit t.kind n) × AreMarked (operators_up_to_token t.kind n) ts

marked_unless : (b : Bool) (n : ℕ) (ts : List Token) → AreMarked n ts → AreMarked n (cond b [] ts)
marked_unless true n ts h = tt
marked_unless false n ts h = h

emitted_marked : (x : Lexeme) (p : TextPlace) (n : ℕ) (go : ℕ → ℕ → List Token) → ((k m : ℕ) → AreMarked m (go k m)) → AreMarked n (emit_token x p n go)
emitted_marked (lexemes.Blank k) p n go h = h (k - 1) n
emitted_marked (lexemes.Token t k) p n go h =
    (refl, marked_unless (is_bad t) (operators_up_to_token t n) (go (k - 1) (operators_up_to_token t n)) (h (k - 1) (operators_up_to_token t n)))

scan_marked : (bs : List ℕ) (skip : ℕ) (p : TextPlace) (n : ℕ) → AreMarked n (scan bs skip p n)
scan_marked [] skip p n = (refl, tt)
scan_marked (b ∷ bs) (suc skip) p n = scan_marked bs skip (place_after_byte p b) n
scan_marked (b ∷ bs) zero p n = emitted_marked (lexeme_of (b ∷ bs)) p n (λ k m. scan bs k (place_after_byte p b) m)
    (λ k m. scan_marked bs k (place_after_byte p b) m)

-- ---- each token is proper, and the last one alone ends the text

in_range : (v : ℕ) → v ≤ most_number → (pos 0 ≤ℤ pos v) × (pos v ≤ℤ pos most_number)
in_range v h = grind (arith, h)

number_proper : (n : ℤ) (v : ℕ) → n ≡ pos v → v ≤ most_number → (pos 0 ≤ℤ n) × (n ≤ℤ pos most_number)
number_proper n v e h = subst (λ (i : ℤ). (pos 0 ≤ℤ i) × (i ≤ℤ pos most_number)) (sym e) (in_range v h)

stands_proper : (t : TokenKind) (own rest : List ℕ) → StandsBefore t own rest → IsProper t
stands_proper (Name x) own rest h = subst (λ (bytes : List ℕ). IsTrue (is_name bytes)) (sym h.0) h.1
stands_proper (Number n) own rest h = number_proper n (number_value own) h.1 h.2
stands_proper _ own rest h = tt

proper_each : (ts : List Token) (front bytes : List ℕ) → AreTokens front bytes ts → AllByRecursion (λ t. IsProper t.kind) ts
proper_each [] front bytes h = absurd h
proper_each (t ∷ []) front bytes h = (stands_proper t.kind h.0.own h.0.rest h.0.stands, tt)
proper_each (t ∷ u ∷ ts) front bytes h = (stands_proper t.kind h.0.own h.0.rest h.0.stands, proper_each (u ∷ ts) (front ++ (h.0.gap ++ h.0.own)) h.0.rest h.2)

pub tokens_proper : (bytes : List ℕ) → All (λ t. IsProper t.kind) (tokens_of bytes)
tokens_proper bytes = All-from_recursion (λ t. IsProper t.kind) (tokens_of bytes) (proper_each (tokens_of bytes) [] bytes (tokenized bytes))

ends_once : (ts : List Token) (front bytes : List ℕ) → AreTokens front bytes ts → IsTrue (end_once ts)
ends_once [] front bytes h = absurd h
ends_once (t ∷ []) front bytes h = h.1
ends_once (t ∷ u ∷ ts) front bytes h = ap (λ (b : Bool). not b && end_once (u ∷ ts)) h.1 ∙ ends_once (u ∷ ts) (front ++ (h.0.gap ++ h.0.own)) h.0.rest h.2

pub tokens_end : (bytes : List ℕ) → IsTrue (end_once (tokens_of bytes))
tokens_end bytes = ends_once (tokens_of bytes) [] bytes (tokenized bytes)

-- ---- both

-- each token is proper and marked
abbrev pub AreCounted : ℕ → List Token → Type 0
AreCounted n [] = Unit {0}
AreCounted n (t ∷ ts) = IsProper t.kind × (t.past_limit ≡ is_past_limit t.kind n) × AreCounted (operators_up_to_token t.kind n) ts

both_so : (n : ℕ) (ts : List Token) → AllByRecursion (λ t. IsProper t.kind) ts → AreMarked n ts → AreCounted n ts
both_so n [] h j = tt
both_so n (t ∷ ts) h j = (h.0, j.0, both_so (operators_up_to_token t.kind n) ts h.1 j.1)

pub tokens_counted : (bytes : List ℕ) → AreCounted 0 (tokens_of bytes)
tokens_counted bytes = both_so 0 (tokens_of bytes) (proper_each (tokens_of bytes) [] bytes (tokenized bytes))
    (scan_marked bytes 0 (record { line = 1; column = 1 }) 0)

-- a list that ends once, cut before its last token
pub record IsCut (ts : List Token) : Type 0 where
  pub before : List Token
  pub token : Token
  pub is : ts ≡ before ++ token ∷ []
  pub last : IsTrue (ends_text token.kind)
  pub others : AllByRecursion (λ t. ends_text t.kind ≡ false) before

split_and : (a b : Bool) → IsTrue (not a && b) → (a ≡ false) × IsTrue b
split_and true b h = absurd cc
split_and false b h = (refl, h)

pub cut : (ts : List Token) → IsTrue (end_once ts) → IsCut ts
cut [] h = absurd cc
cut (t ∷ []) h = record { before = []; token = t; is = refl; last = h; others = tt }
cut (t ∷ u ∷ ts) h =
    let two = split_and (ends_text t.kind) (end_once (u ∷ ts)) h in
    let c : IsCut (u ∷ ts) = cut (u ∷ ts) two.1 in
    record { before = t ∷ c.before; token = c.token; is = ap (λ (l : List Token). t ∷ l) c.is; last = c.last; others = (two.0, c.others) }
