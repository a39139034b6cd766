-- A loop that answers each of a list in turn.
use Rattle.std.proofs.Common.{◌≡◌, ℕ, ◌+◌, ◌<◌, ◌≤◌, List, [], ◌∷◌, ◌++◌, map, drop, length, get_or, append_assoc, refl, ap, sym, ◌∙◌}
use Rattle.std.proofs.lemmas.List.{map_push, drop_all, append-nil}
use Rattle.fs_model.proofs.Lists.{map_drop_next}
use Rattle.nf_terms.specs.Computed.{Computed, Done, Wide, Large, after}
use Rattle.sym_paths.specs.Sequences.{each}

-- what is done, followed by what the rest gives
abbrev pub followed : {T : Type 0} → List T → Computed (List T) → Computed (List T)
followed done c = after c (λ ys. Done (done ++ ys))

pub more_done : {T : Type 0} (done : List T) (y : T) (c : Computed (List T)) → followed (done ++ y ∷ []) c ≡ followed done (after c (λ ys. Done (y ∷ ys)))
more_done done y (Done ys) = ap Done (append_assoc done (y ∷ []) ys)
more_done done y (Wide l r) = refl
more_done done y (Large u d) = refl

nothing_left : {T : Type 0} (done : List T) → followed done (Done []) ≡ Done done
nothing_left done = ap Done (append-nil done)

module _ {A B S T : Type 0} (g : A → B) (f : B → Computed T) (h : S → T) (xs : List A) (i : ℕ) {whole : Computed (List T)} where
  -- what the next of the list gives is put behind what is done
  pub one_followed : (x : A) (old new : List S) (y : S) → i < length xs → x ≡ get_or xs i x → f (g x) ≡ Done (h y) → new ≡ old ++ y ∷ []
      → followed (map h old) (each f (map g (drop i xs))) ≡ whole → followed (map h new) (each f (map g (drop (i + 1) xs))) ≡ whole
  one_followed x old new y within is given put so_far =
      ap (λ l. followed l (each f (map g (drop (i + 1) xs)))) (ap (map h) put ∙ map_push h old y)
      ∙ more_done (map h old) (h y) (each f (map g (drop (i + 1) xs)))
      ∙ ap (λ c. followed (map h old) (after c (λ z. after (each f (map g (drop (i + 1) xs))) (λ ys. Done (z ∷ ys))))) (sym given)
      ∙ ap (λ l. followed (map h old) (each f l)) (sym (map_drop_next g xs i x within is))
      ∙ so_far

  pub all_followed : (out : List S) → length xs ≤ i → followed (map h out) (each f (map g (drop i xs))) ≡ whole → whole ≡ Done (map h out)
  all_followed out past so_far =
      sym so_far ∙ ap (λ l. followed (map h out) (each f (map g l))) (drop_all i xs past) ∙ nothing_left (map h out)
