-- Names as keys: equal where their bytes are, and hashed as a whole.
use Rattle.std.specs.Prelude.{◌≡◌, ℕ, Bool, true, List, [], ◌∷◌}
use Rattle.std.proofs.Common.{ap, sym}
use Rattle.std.specs.Str.{bytes_eq}
use Rattle.std.specs.Cmp.{IsPartialEquivalence, IsEquivalence, partial_equiv_from_equiv}
use Rattle.std.specs.Cmp.Lexicographic.{on_texts_equal, same_text}
use Rattle.cert_terms.specs.declared.table.NameKey.{NameKey}

abbrev pub same_name : NameKey → NameKey → Bool
same_name x y = bytes_eq x.bytes.now y.bytes.now

pub names_same : IsEquivalence same_name
names_same = on_texts_equal (λ x. x.bytes.now)

pub names_partly : IsPartialEquivalence same_name
names_partly = partial_equiv_from_equiv names_same

-- what is hashed of a name: its bytes at once
abbrev pub hashed_name : NameKey → List (List ℕ)
hashed_name x = x.bytes.now ∷ []

pub names_alike : (x y : NameKey) → same_name x y ≡ true → hashed_name x ≡ hashed_name y
names_alike x y e = ap (λ bytes. bytes ∷ []) (same_text x.bytes.now y.bytes.now (sym e))
