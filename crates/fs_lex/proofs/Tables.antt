-- Looking up bytes in a table of tokens.
use Rattle.std.proofs.Common.{◌≡◌, ℕ, List, [], ◌∷◌, ◌++◌, length, refl, sym, ap, ◌∙◌, cond}
use Rattle.std.specs.Prelude.{Bool, true, false, ◌==◌, Option, Some, None, IsTrue}
use Rattle.std.specs.List.{list_all}
use Rattle.std.specs.Map.{lookup}
use Rattle.std.specs.Str.{bytes_eq}
use Rattle.std.proofs.lemmas.Bool.{eqb-true, and_parts}
use Rattle.std.proofs.lemmas.Slice.Eq.{bytes_eq-Decides}
use Rattle.fs_grammar.specs.declared.token.TokenKind.{TokenKind}

abbrev pub Table : Type 0
Table = List (List ℕ × TokenKind)

pub false_unless : (b : Bool) → (IsTrue b → ⊥) → b ≡ false
false_unless true f = absurd (f refl)
false_unless false f = refl

pub none_unless : (o : Option TokenKind) → ((t : TokenKind) → o ≡ Some t → ⊥) → o ≡ None
none_unless (Some t) f = absurd (f t refl)
none_unless None f = refl

left_more : (b : Bool) (v : TokenKind) (o u : Option TokenKind) (t : TokenKind) → (o ≡ Some t → u ≡ Some t) → cond b (Some v) o ≡ Some t
    → cond b (Some v) u ≡ Some t
left_more true v o u t f h = h
left_more false v o u t f h = f h

-- what is found in the first of two tables is found in both
pub lookup_left : (xs ys : Table) (bs : List ℕ) (t : TokenKind) → lookup (bytes_eq bs) xs ≡ Some t → lookup (bytes_eq bs) (xs ++ ys) ≡ Some t
lookup_left [] ys bs t h = absurd cc
lookup_left (e ∷ es) ys bs t h = left_more (bytes_eq bs e.0) e.1 (lookup (bytes_eq bs) es) (lookup (bytes_eq bs) (es ++ ys)) t (λ q. lookup_left es ys bs t q) h

right_more : (b : Bool) (v : TokenKind) (o u w : Option TokenKind) → (o ≡ None → u ≡ w) → cond b (Some v) o ≡ None → cond b (Some v) u ≡ w
right_more true v o u w f h = absurd cc
right_more false v o u w f h = f h

-- what is not in the first of two tables is looked up in the second
pub lookup_right : (xs ys : Table) (bs : List ℕ) → lookup (bytes_eq bs) xs ≡ None → lookup (bytes_eq bs) (xs ++ ys) ≡ lookup (bytes_eq bs) ys
lookup_right [] ys bs h = refl
lookup_right (e ∷ es) ys bs h = right_more (bytes_eq bs e.0) e.1 (lookup (bytes_eq bs) es) (lookup (bytes_eq bs) (es ++ ys)) (lookup (bytes_eq bs) ys)
    (λ q. lookup_right es ys bs q) h

missed : (b : Bool) (v : TokenKind) (o : Option TokenKind) → b ≡ false → o ≡ None → cond b (Some v) o ≡ None
missed true v o e h = absurd cc
missed false v o e h = h

-- bytes of another length are not in a table
pub other_length : (table : Table) (n : ℕ) (bs : List ℕ) → IsTrue (list_all (λ e. length e.0 == n) table) → (length bs ≡ n → ⊥)
    → lookup (bytes_eq bs) table ≡ None
other_length [] n bs h f = refl
other_length (e ∷ es) n bs h f =
    let two = and_parts (length e.0 == n) (list_all (λ (e : List ℕ × TokenKind). length e.0 == n) es) h in
    missed (bytes_eq bs e.0) e.1 (lookup (bytes_eq bs) es)
    (false_unless (bytes_eq bs e.0) (λ q. f (ap length ((bytes_eq-Decides bs e.0).0 q) ∙ eqb-true (length e.0) n two.0))) (other_length es n bs two.1 f)

found : (b : Bool) (v : TokenKind) (o : Option TokenKind) (t : TokenKind) (R : Type 0) → (b ≡ true → v ≡ t → R) → (o ≡ Some t → R)
    → cond b (Some v) o ≡ Some t → R
found true v o t R f g h =
    let same : v ≡ t = cc in
    f refl same
found false v o t R f g h = g h

-- what is so of each key is so of bytes that are found
pub so_of_key : (q : List ℕ → Bool) (table : Table) (bs : List ℕ) (t : TokenKind) → IsTrue (list_all (λ e. q e.0) table) → lookup (bytes_eq bs) table ≡ Some t
    → IsTrue (q bs)
so_of_key q [] bs t h l = absurd cc
so_of_key q (e ∷ es) bs t h l =
    let two = and_parts (q e.0) (list_all (λ (e : List ℕ × TokenKind). q e.0) es) h in
    found (bytes_eq bs e.0) e.1 (lookup (bytes_eq bs) es) t (IsTrue (q bs)) (λ i same. ap q ((bytes_eq-Decides bs e.0).0 i) ∙ two.0)
    (λ i. so_of_key q es bs t two.1 i) l

-- what is so of each token is so of the one that is found
pub so_of_token : (q : TokenKind → Bool) (table : Table) (bs : List ℕ) (t : TokenKind) → IsTrue (list_all (λ e. q e.1) table)
    → lookup (bytes_eq bs) table ≡ Some t → IsTrue (q t)
so_of_token q [] bs t h l = absurd cc
so_of_token q (e ∷ es) bs t h l =
    let two = and_parts (q e.1) (list_all (λ (e : List ℕ × TokenKind). q e.1) es) h in
    found (bytes_eq bs e.0) e.1 (lookup (bytes_eq bs) es) t (IsTrue (q t)) (λ i same. ap q (sym same) ∙ two.0) (λ i. so_of_token q es bs t two.1 i) l
