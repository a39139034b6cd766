-- Where each token of a text stands.
use Rattle.std.proofs.Common.{◌≡◌, ℕ, List, [], ◌∷◌, ◌++◌, sym, ap, subst, ◌∙◌, append_assoc}
use Rattle.fs_grammar.specs.declared.token.Token.{Token}
use Rattle.fs_lex.specs.Scan.{tokens_of}
use Rattle.fs_lex.specs.Tokenization.{IsNextToken, AreTokens, IsTokenIn}
use Rattle.fs_lex.proofs.Tokenized.{tokenized}

next_stands : (front bytes : List ℕ) (t : Token) → IsNextToken front bytes t → IsTokenIn (front ++ bytes) t
next_stands front bytes t n =
    record {
      front = front ++ n.gap;
      own = n.own;
      rest = n.rest;
      bytes_are = ap (λ (xs : List ℕ). front ++ xs) n.bytes_are ∙ sym (append_assoc front n.gap (n.own ++ n.rest));
      stands = n.stands;
      place = n.place;
    }

-- the bytes up to the rest, and the rest
rejoined : (front bytes : List ℕ) (t : Token) (n : IsNextToken front bytes t) → (front ++ (n.gap ++ n.own)) ++ n.rest ≡ front ++ bytes
rejoined front bytes t n =
    append_assoc front (n.gap ++ n.own) n.rest ∙ ap (λ (xs : List ℕ). front ++ xs) (append_assoc n.gap n.own n.rest ∙ sym n.bytes_are)

first_stands : (front bytes : List ℕ) (t : Token) (ts : List Token) → AreTokens front bytes (t ∷ ts) → IsTokenIn (front ++ bytes) t
first_stands front bytes t [] a = next_stands front bytes t a.0
first_stands front bytes t (u ∷ ts) a = next_stands front bytes t a.0

each_stands : (before : List Token) (front bytes : List ℕ) (t : Token) (behind : List Token) → AreTokens front bytes (before ++ t ∷ behind)
    → IsTokenIn (front ++ bytes) t
each_stands [] front bytes t behind a = first_stands front bytes t behind a
each_stands (u ∷ []) front bytes t behind a =
    subst (λ (xs : List ℕ). IsTokenIn xs t) (rejoined front bytes u a.0) (first_stands (front ++ (a.0.gap ++ a.0.own)) a.0.rest t behind a.2)
each_stands (u ∷ v ∷ before) front bytes t behind a =
    subst (λ (xs : List ℕ). IsTokenIn xs t) (rejoined front bytes u a.0) (each_stands (v ∷ before) (front ++ (a.0.gap ++ a.0.own)) a.0.rest t behind a.2)

pub stands_in_text : (bytes : List ℕ) (before behind : List Token) (t : Token) → tokens_of bytes ≡ before ++ t ∷ behind → IsTokenIn bytes t
stands_in_text bytes before behind t e = each_stands before [] bytes t behind (subst (AreTokens [] bytes) e (tokenized bytes))
