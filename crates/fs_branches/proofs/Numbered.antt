-- Guards and assignments over the numbers of variables.
use Rattle.std.proofs.Common.{◌≡◌, ℕ, List, [], ◌∷◌, refl, sym, ◌∙◌, ap, ap₂}
use Rattle.std.specs.Prelude.{map, Result, Ok, Err, IfOk}
use Rattle.fs_model.proofs.Lists.{map_map}
use Rattle.fs_model.specs.declared.parts.VarId.{VarId}
use Rattle.fs_model.specs.declared.parts.Guard.{Guard as DeclaredGuard}
use Rattle.fs_model.specs.declared.parts.Assign.{Assign as DeclaredAssign}
use Rattle.fs_model.specs.View.{guard_by, assignment_by, guard_of, assignment_of, named_guard, named_assignment}
use Rattle.fs_model.specs.Renamed.{guard_over, assignment_over}
use Rattle.fs_model.proofs.Renamed.{guard_renamed, assignment_by_over, assignment_over_over}

pub guard_numbered : (f : List ℕ → ℕ) (c : DeclaredGuard (List ℕ)) (copy : DeclaredGuard VarId)
    → guard_by (λ x. x) copy ≡ guard_over (λ n. record { 0 = f n }) (named_guard c) → guard_of copy ≡ guard_over f (named_guard c)
guard_numbered f c copy h = guard_renamed (λ n. record { 0 = f n }) (λ (x : VarId). x.0) c copy h

map_same : {A B : Type 0} (f g : A → B) → ((x : A) → f x ≡ g x) → (xs : List A) → map f xs ≡ map g xs
map_same f g h [] = refl
map_same f g h (x ∷ xs) = ap₂ (λ y ys. y ∷ ys) (h x) (map_same f g h xs)

pub assignments_numbered : (f : List ℕ → ℕ) (bs : List (DeclaredAssign (List ℕ))) (copies : List (DeclaredAssign VarId))
    → map (assignment_by (λ x. x)) copies ≡ map (assignment_over (λ n. record { 0 = f n })) (map (assignment_by (λ x. x)) bs)
    → map assignment_of copies ≡ map (assignment_over f) (map named_assignment bs)
assignments_numbered f bs copies h =
    map_same assignment_of (λ a. assignment_over (λ (x : VarId). x.0) (assignment_by (λ x. x) a)) (assignment_by_over (λ (x : VarId). x.0)) copies
    ∙ sym (map_map (assignment_over (λ (x : VarId). x.0)) (assignment_by (λ x. x)) copies)
    ∙ ap (map (assignment_over (λ (x : VarId). x.0))) h
    ∙ map_map (assignment_over (λ (x : VarId). x.0)) (assignment_over (λ n. record { 0 = f n })) (map named_assignment bs)
    ∙ map_same (λ a. assignment_over (λ (x : VarId). x.0) (assignment_over (λ n. record { 0 = f n }) a)) (assignment_over f)
    (assignment_over_over (λ (x : VarId). x.0) (λ n. record { 0 = f n })) (map named_assignment bs)

pub if_ok : {T E : Type 0} (r : Result T E) {P Q : T → Type 0} → ((x : T) → P x → Q x) → IfOk r P → IfOk r Q
if_ok (Ok x) f h = f x h
if_ok (Err e) f h = tt
