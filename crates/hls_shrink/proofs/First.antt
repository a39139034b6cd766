-- The first of a list of contents with a property.
use Rattle.std.proofs.Common.{◌≡◌, Bool, true, false, cond, List, [], ◌∷◌, ◌++◌, sym, ◌∙◌, subst, inl, inr}
use Rattle.std.specs.Prelude.{pos, map, int_div}
use Rattle.fs_model.specs.Runs.{Content}
use Rattle.hls_shrink.specs.declared.entries.InputEntry.{InputEntry}
use Rattle.hls_shrink.specs.Reductions.{is_beyond_one, contents_with, reductions_at, reductions}
use Rattle.hls_shrink.specs.Shrunk.{IsFirst, NoneHas}

pub first_within : (P : List Content → Type 0) (xs ys : List (List Content)) (r : List Content) → IsFirst P xs r → IsFirst P (xs ++ ys) r
first_within P [] ys r h = absurd h
first_within P (x ∷ xs) ys r (inl a) = inl a
first_within P (x ∷ xs) ys r (inr b) = inr (b.0, first_within P xs ys r b.1)

pub first_behind : (P : List Content → Type 0) (xs ys : List (List Content)) (r : List Content) → NoneHas P xs → IsFirst P ys r → IsFirst P (xs ++ ys) r
first_behind P [] ys r none h = h
first_behind P (x ∷ xs) ys r none h = inr (none.0, first_behind P xs ys r none.1 h)

pub none_joined : (P : List Content → Type 0) (xs ys : List (List Content)) → NoneHas P xs → NoneHas P ys → NoneHas P (xs ++ ys)
none_joined P [] ys a b = b
none_joined P (x ∷ xs) ys a b = (a.0, none_joined P xs ys a.1 b)

-- what is first of the reductions that are left is first of all, and where none of those has P, none of all has
pub record Passed (P : List Content → Type 0) (cs : List Content) (all left : List InputEntry) : Type 0 where
  pub some : (r : List Content) → IsFirst P (reductions cs left) r → IsFirst P (reductions cs all) r
  pub none : NoneHas P (reductions cs left) → NoneHas P (reductions cs all)

pub passed_none : (P : List Content → Type 0) (cs : List Content) (all : List InputEntry) → Passed P cs all all
passed_none P cs all = record { some = λ r h. h; none = λ h. h }

pub passed_more : (P : List Content → Type 0) (cs : List Content) (all left rest : List InputEntry) (e : InputEntry) → left ≡ e ∷ rest
    → NoneHas P (reductions_at cs e)
    → Passed P cs all left → Passed P cs all rest
passed_more P cs all left rest e is none before =
    let here : Passed P cs all (e ∷ rest) = subst (λ xs. Passed P cs all xs) is before in
    record {
      some = λ r h. here.some r (first_behind P (reductions_at cs e) (reductions cs rest) r none h);
      none = λ h. here.none (none_joined P (reductions_at cs e) (reductions cs rest) none h);
    }

pub passed_found : (P : List Content → Type 0) (cs : List Content) (all left rest : List InputEntry) (e : InputEntry) (r : List Content) → left ≡ e ∷ rest
    → IsFirst P (reductions_at cs e) r → Passed P cs all left → IsFirst P (reductions cs all) r
passed_found P cs all left rest e r is found before =
    let here : Passed P cs all (e ∷ rest) = subst (λ xs. Passed P cs all xs) is before in
    here.some r (first_within P (reductions_at cs e) (reductions cs rest) r found)

-- ---- the reductions at an entry

abbrev pub with_zero : List Content → InputEntry → List Content
with_zero cs e = contents_with cs e (pos 0)

abbrev pub with_half : List Content → InputEntry → List Content
with_half cs e = contents_with cs e (int_div e.number (pos 2))

pub first_zero : (P : List Content → Type 0) (cs : List Content) (e : InputEntry) (r : List Content) → r ≡ with_zero cs e → P r
    → IsFirst P (reductions_at cs e) r
first_zero P cs e r is h = inl (subst P is h, sym is)

halves : (P : List Content → Type 0) (cs : List Content) (e : InputEntry) (r : List Content) (b : Bool) → b ≡ true → r ≡ with_half cs e → P r
    → IsFirst P (map (contents_with cs e) (cond b (int_div e.number (pos 2) ∷ []) [])) r
halves P cs e r true on is h = inl (subst P is h, sym is)
halves P cs e r false on is h = absurd (cc)

pub first_half : (P : List Content → Type 0) (cs : List Content) (e : InputEntry) (r : List Content) → is_beyond_one e.number ≡ true → ¬ P (with_zero cs e)
    → r ≡ with_half cs e → P r → IsFirst P (reductions_at cs e) r
first_half P cs e r beyond none is h = inr (none, halves P cs e r (is_beyond_one e.number) beyond is h)

no_halves : (P : List Content → Type 0) (cs : List Content) (e : InputEntry) (b : Bool) → b ≡ false
    → NoneHas P (map (contents_with cs e) (cond b (int_div e.number (pos 2) ∷ []) []))
no_halves P cs e true is = absurd (cc)
no_halves P cs e false is = tt

pub none_small : (P : List Content → Type 0) (cs : List Content) (e : InputEntry) → is_beyond_one e.number ≡ false → ¬ P (with_zero cs e)
    → NoneHas P (reductions_at cs e)
none_small P cs e small none = (none, no_halves P cs e (is_beyond_one e.number) small)

neither_half : (P : List Content → Type 0) (cs : List Content) (e : InputEntry) (b : Bool) → ¬ P (with_half cs e)
    → NoneHas P (map (contents_with cs e) (cond b (int_div e.number (pos 2) ∷ []) []))
neither_half P cs e true none = (none, tt)
neither_half P cs e false none = tt

pub none_either : (P : List Content → Type 0) (cs : List Content) (e : InputEntry) → ¬ P (with_zero cs e) → ¬ P (with_half cs e)
    → NoneHas P (reductions_at cs e)
none_either P cs e zero half = (zero, neither_half P cs e (is_beyond_one e.number) half)

-- ---- there is one first

pub first_once : (P : List Content → Type 0) (xs : List (List Content)) (r s : List Content) → IsFirst P xs r → IsFirst P xs s → r ≡ s
first_once P [] r s a b = absurd a
first_once P (x ∷ xs) r s (inl a) (inl b) = sym a.1 ∙ b.1
first_once P (x ∷ xs) r s (inl a) (inr b) = absurd (b.0 a.0)
first_once P (x ∷ xs) r s (inr a) (inl b) = absurd (a.0 b.0)
first_once P (x ∷ xs) r s (inr a) (inr b) = first_once P xs r s a.1 b.1

pub first_or_none : (P : List Content → Type 0) (xs : List (List Content)) (r : List Content) → IsFirst P xs r → NoneHas P xs → ⊥
first_or_none P [] r a b = a
first_or_none P (x ∷ xs) r (inl a) b = b.0 a.0
first_or_none P (x ∷ xs) r (inr a) b = first_or_none P xs r a.1 b.1
