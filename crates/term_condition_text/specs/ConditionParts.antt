-- How the bytes of a condition are taken apart: before the space in front of its first sign of a relation, and behind it.
use Rattle.std.specs.Prelude.{ℕ, ◌-◌, ◌==◌, Bool, not, ◌||◌, ◌&&◌, cond, List, [], ◌∷◌, take, drop, Option, Some, None}
use Rattle.std.specs.Prelude.{option_map, option_and_then, codes}
use Rattle.std.specs.List.{prefix_len}
use Rattle.std.specs.Str.{bytes_eq}
use Rattle.nf_rel.specs.declared.kind.Kind.{Kind}
use Rattle.nf_rel.specs.declared.kind.Kind.TheVariants.{Ge, Le, Eq, Ne}
use Rattle.term_text.specs.SpellableTerms.{is_number_text}
use Rattle.term_condition_text.specs.ConditionTexts.{Integer, ZeroInteger, Positive, Negative}

-- no sign of a relation
abbrev pub is_plain : ℕ → Bool
is_plain b = not (b == 60 || b == 61 || b == 62 || b == 33)

-- where the space before the first sign of a relation stands
abbrev pub cut : List ℕ → ℕ
cut bytes = prefix_len is_plain bytes - 1

-- the bytes behind these four, which are the text of a relation
abbrev pub relation_at : ℕ → ℕ → ℕ → ℕ → Option Kind
relation_at a b c d =
    cond (a == 32 && c == 61 && d == 32)
    (cond (b == 62) (Some Ge) (cond (b == 60) (Some Le) (cond (b == 61) (Some Eq) (cond (b == 33) (Some Ne) None))))
    None

abbrev pub relation_in : List ℕ → Option (Kind × List ℕ)
relation_in (a ∷ b ∷ c ∷ d ∷ rest) = option_map (λ k. (k, rest)) (relation_at a b c d)
relation_in _ = None

-- the number that all bytes are
abbrev pub integer_of : List ℕ → Option Integer
integer_of [] = None
integer_of (b ∷ bytes) =
    cond (b == 45) (cond (is_number_text bytes) (Some (Negative bytes)) None)
    (cond (bytes_eq (b ∷ bytes) (codes "0")) (Some ZeroInteger)
    (cond (is_number_text (b ∷ bytes)) (Some (Positive (b ∷ bytes))) None))

-- the bytes of the polynomial, the relation and the number
abbrev pub condition_parts : List ℕ → Option (List ℕ × Kind × Integer)
condition_parts bytes = option_and_then (λ x. option_map (λ i. (take (cut bytes) bytes, x.0, i)) (integer_of x.1))
    (relation_in (drop (cut bytes) bytes))
