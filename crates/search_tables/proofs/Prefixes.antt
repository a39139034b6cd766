-- Of two legal lists one is a prefix of the other.
use Rattle.std.proofs.Common.{◌≡◌, ◌⊎◌, inl, inr, refl, ap₂, sym, subst, List, [], ◌∷◌}
use Rattle.search_tables.specs.declared.moves.Move.{Move}
use Rattle.search_tables.specs.SearchTables.{MachinePair, Table, first_table}
use Rattle.search_tables.specs.Next.{Next, Change, next_move}
use Rattle.search_tables.specs.Legal.{MovesLead, Makes, IsPrefixOf}

pub same_change : (o : Next) (x y : Move) (V W : Table) → o ≡ Change x V → o ≡ Change y W → (x ≡ y) × (V ≡ W)
same_change o x y V W e f = (cc (e, f), cc (e, f))

longer : (x y : Move) (xs ys : List Move) → x ≡ y → IsPrefixOf xs ys ⊎ IsPrefixOf ys xs → IsPrefixOf (x ∷ xs) (y ∷ ys) ⊎ IsPrefixOf (y ∷ ys) (x ∷ xs)
longer x y xs ys e h = elim h [ inl p ↦ inl (p.0, ap₂ (λ z zs. z ∷ zs) e p.1) | inr p ↦ inr (p.0, ap₂ (λ z zs. z ∷ zs) (sym e) p.1) ]

prefixes : (m : MachinePair) (xs ys : List Move) (S T U : Table) → MovesLead m S xs T → MovesLead m S ys U → IsPrefixOf xs ys ⊎ IsPrefixOf ys xs
prefixes m [] ys S T U h k = inl (ys, refl)
prefixes m (x ∷ xs) [] S T U h k = inr (x ∷ xs, refl)
prefixes m (x ∷ xs) (y ∷ ys) S T U h k =
    let e = same_change (next_move m S) x y h.0 k.0 h.2 k.2 in
    longer x y xs ys e.0 (prefixes m xs ys h.0 T U h.3 (subst (λ V. MovesLead m V ys U) (sym e.1) k.3))

pub one_is_a_prefix : (m : MachinePair) (xs ys : List Move) (T U : Table) → Makes m xs T → Makes m ys U → IsPrefixOf xs ys ⊎ IsPrefixOf ys xs
one_is_a_prefix m xs ys T U h k = prefixes m xs ys (first_table m) T U h.lead k.lead
