-- Each kind of token stands exactly where its bytes say so.
use Rattle.std.proofs.Common.{◌≡◌, ℕ, ◌<◌, ◌≤◌, ◌↔◌, List, [], ◌∷◌, ◌++◌, length, refl, sym, subst, ◌∙◌, arith}
use Rattle.std.specs.Prelude.{pos, nat_lt, IsTrue, Some, is_some}
use Rattle.std.proofs.lemmas.Bool.{ltb-true, and_parts}
use Rattle.fs_model.specs.Limits.{most_name_bytes, most_number}
use Rattle.fs_model.specs.Words.{is_word, is_name, is_reserved}
use Rattle.fs_grammar.specs.declared.token.TokenKind.{TokenKind}
use Rattle.fs_grammar.specs.declared.token.TokenKind.TheVariants.{Name, Number, Bad}
use Rattle.fs_grammar.specs.declared.token.Flaw.TheVariants as flaws
use Rattle.fs_lex.specs.Vocabulary.{reserved_tokens, double_tokens, single_tokens, reserved_kind, punctuation_kind, is_number, number_value}
use Rattle.fs_lex.specs.Tokenization.{BeginsNothing, StandsBefore}
use Rattle.fs_lex.proofs.Tables.{so_of_key}
use Rattle.fs_lex.proofs.Standing.{reserved_tells}
use Rattle.fs_lex.proofs.KindOf.{kind_spelled, name_spelled, long_spelled, reserved_spelled, number_spelled, large_spelled, punctuation_spelled}
use Rattle.fs_lex.proofs.Unique.{one_token}

word_has_bytes : (own : List ℕ) → IsTrue (is_word own) → 0 < length own
word_has_bytes [] h = absurd cc
word_has_bytes (b ∷ bs) h = omega arith

number_has_bytes : (own : List ℕ) → IsTrue (is_number own) → 0 < length own
number_has_bytes [] h = absurd cc
number_has_bytes (b ∷ bs) h = omega arith

name_is_word : (own : List ℕ) → IsTrue (is_name own) → IsTrue (is_word own)
name_is_word own n = (and_parts (is_word own) _ (and_parts _ _ n).0).0

pub reserved : (t u : TokenKind) (own rest : List ℕ) → StandsBefore t own rest → reserved_kind own ≡ Some u → t ≡ u
reserved t u own rest h e =
    let bytes : 0 < length own = word_has_bytes own (so_of_key is_word reserved_tokens own u refl e) in
    sym (kind_spelled t own rest h bytes) ∙ reserved_spelled own u e

pub keywords : (own : List ℕ) → is_some (reserved_kind own) ≡ is_reserved own
keywords own = sym (reserved_tells own)

pub names : (t : TokenKind) (own rest : List ℕ) → StandsBefore t own rest → IsTrue (is_name own) → t ≡ Name own
names t own rest h n = sym (kind_spelled t own rest h (word_has_bytes own (name_is_word own n))) ∙ name_spelled own n

pub words : (t : TokenKind) (own rest : List ℕ) → StandsBefore t own rest → IsTrue (is_word own) → (t ≡ Bad flaws.Word) ↔ (most_name_bytes < length own)
words t own rest h w =
    (λ e. (subst (λ (u : TokenKind). StandsBefore u own rest) e h).1, λ l. sym (kind_spelled t own rest h (word_has_bytes own w)) ∙ long_spelled own w l)

pub numbers : (t : TokenKind) (own rest : List ℕ) → StandsBefore t own rest → IsTrue (is_number own) → number_value own ≤ most_number
    → t ≡ Number (pos (number_value own))
numbers t own rest h n l = sym (kind_spelled t own rest h (number_has_bytes own n)) ∙ number_spelled own n l

pub large : (t : TokenKind) (own rest : List ℕ) → StandsBefore t own rest → IsTrue (is_number own) → (t ≡ Bad flaws.Number) ↔ (most_number < number_value own)
large t own rest h n =
    (λ e. (subst (λ (u : TokenKind). StandsBefore u own rest) e h).1, λ l. sym (kind_spelled t own rest h (number_has_bytes own n)) ∙ large_spelled own n l)

pub punctuation : (t u : TokenKind) (own rest : List ℕ) → StandsBefore t own rest → punctuation_kind own ≡ Some u → t ≡ u
punctuation t u own rest h e =
    let bytes : 0 < length own = ltb-true 0 (length own) (so_of_key (λ (k : List ℕ). nat_lt 0 (length k)) (double_tokens ++ single_tokens) own u refl e) in
    sym (kind_spelled t own rest h bytes) ∙ punctuation_spelled own u e

pub bad : (own rest : List ℕ) → StandsBefore (Bad flaws.Byte) own rest → (b : ℕ) × (own ≡ b ∷ []) × BeginsNothing b rest
bad own rest h = h

pub only_bad : (t : TokenKind) (b : ℕ) (own rest more : List ℕ) → StandsBefore t own rest → own ++ rest ≡ b ∷ more → BeginsNothing b more → t ≡ Bad flaws.Byte
only_bad t b own rest more h e n =
    let here : StandsBefore (Bad flaws.Byte) (b ∷ []) more = (b, refl, n) in
    (one_token t (Bad flaws.Byte) own rest (b ∷ []) more h here e).0
