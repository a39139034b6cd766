-- Operations one after another.
use Rattle.std.specs.Prelude.{List, [], ◌∷◌}
use Rattle.nf_terms.specs.Computed.{Computed, Done, after}

-- what each gives, in order; the first event is that of the whole
abbrev pub each : {S T : Type 0} → (S → Computed T) → List S → Computed (List T)
each f [] = Done []
each f (x ∷ xs) = after (f x) (λ y. after (each f xs) (λ ys. Done (y ∷ ys)))
