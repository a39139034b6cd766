-- Lists that loops fill, item by item.
use Rattle.std.proofs.Common.{◌≡◌, ℕ, ◌+◌, ◌<◌, Bool, true, false, not, List, [], ◌∷◌, ◌++◌, length, get_or, take, map, filter, cond}
use Rattle.std.proofs.Common.{ap, ap₂, sym, ◌∙◌, refl, append_assoc, Result, Ok, Err}
use Rattle.std.specs.Prelude.{◌==◌, Option, option_map}
use Rattle.std.specs.Result.{IfOk}
use Rattle.std.proofs.lemmas.List.{map_push, map_more, take_more, append-nil}
use Rattle.std.proofs.lemmas.List.Elements.{filter-append}
use Rattle.fs_model.specs.Adding.{AddsIfMade}
use Rattle.fs_model.specs.declared.name.NoMemory.{NoMemory}
use Rattle.fs_model.specs.declared.parts.Decl.{Decl}
use Rattle.fs_model.specs.Source.{Declaration, SourceTransition}
use Rattle.fs_model.specs.Expressions.{Guard, Assignment}
use Rattle.fs_model.specs.Renamed.{guard_over, assignment_over}
use Rattle.fs_model.specs.View.{declaration_of}
use Rattle.hls_bind.specs.Bindings.{declaration_without_bound, transition_renamed, remaining_declarations}

pub put : {T : Type 0} (made : Result T NoMemory) (old new : List T) (y : T) → AddsIfMade made old new → IfOk made (λ t. t ≡ y) → new ≡ old ++ y ∷ []
put (Ok x) old new y p e = p ∙ ap (λ z. old ++ z ∷ []) e
put (Err e) old new y p h = absurd p

-- one item more of a list that is looked at by v
pub more_of : {A B C : Type 0} (g : B → C) (v : A → B) (start : List C) (xs : List A) (i : ℕ) (x : A) (old new : List C) → i < length xs
    → x ≡ get_or xs i x → new ≡ old ++ g (v x) ∷ [] → old ≡ start ++ map g (map v (take i xs)) → new ≡ start ++ map g (map v (take (i + 1) xs))
more_of g v start xs i x old new h e n o =
    let viewed : map v (take (i + 1) xs) ≡ map v (take i xs) ++ v x ∷ [] = map_more v xs i x h ∙ ap (λ y. map v (take i xs) ++ v y ∷ []) (sym e) in
    n ∙ ap (λ l. l ++ g (v x) ∷ []) o ∙ append_assoc start (map g (map v (take i xs))) (g (v x) ∷ [])
    ∙ ap (λ l. start ++ l) (sym (ap (map g) viewed ∙ map_push g (map v (take i xs)) (v x)))

pub more_in : {A C : Type 0} (g : A → C) (xs : List A) (i : ℕ) (x : A) (old new : List C) → i < length xs → x ≡ get_or xs i x
    → new ≡ old ++ g x ∷ [] → old ≡ map g (take i xs) → new ≡ map g (take (i + 1) xs)
more_in g xs i x old new h e n o = n ∙ ap₂ (λ l y. l ++ g y ∷ []) o e ∙ sym (map_more g xs i x h)

-- one item more of a list of which some stay
filtered_more : {A : Type 0} (p : A → Bool) (xs : List A) (i : ℕ) (x : A) → i < length xs → x ≡ get_or xs i x
    → filter p (take (i + 1) xs) ≡ filter p (take i xs) ++ cond (p x) (x ∷ []) []
filtered_more p xs i x h e = ap (filter p) (take_more xs i x h ∙ ap (λ y. take i xs ++ y ∷ []) (sym e)) ∙ filter-append p (take i xs) (x ∷ [])

pub one_stays : {A : Type 0} (p : A → Bool) (xs : List A) (i : ℕ) (x : A) (old new : List A) → i < length xs → x ≡ get_or xs i x → p x ≡ true
    → new ≡ old ++ x ∷ [] → old ≡ filter p (take i xs) → new ≡ filter p (take (i + 1) xs)
one_stays p xs i x old new h e t n o = n ∙ ap (λ l. l ++ x ∷ []) o
    ∙ sym (filtered_more p xs i x h e ∙ ap (λ b. filter p (take i xs) ++ cond b (x ∷ []) []) t)

pub one_goes : {A : Type 0} (p : A → Bool) (xs : List A) (i : ℕ) (x : A) (old new : List A) → i < length xs → x ≡ get_or xs i x → p x ≡ false
    → new ≡ old → old ≡ filter p (take i xs) → new ≡ filter p (take (i + 1) xs)
one_goes p xs i x old new h e t n o = n ∙ o
    ∙ sym (filtered_more p xs i x h e ∙ ap (λ b. filter p (take i xs) ++ cond b (x ∷ []) []) t ∙ append-nil (filter p (take i xs)))

-- ---- declarations
one_left : (d : Declaration) (t : Bool) → cond t [] (d ∷ []) ≡ cond (not t) (d ∷ []) []
one_left d true = refl
one_left d false = refl

pub more_remain : (b : List (ℕ × List ℕ)) (vs : List (List ℕ)) (ds : List Decl) (i : ℕ) (d : Decl) (left : Declaration) (old new : List Declaration)
    → i < length ds → d ≡ get_or ds i d → left ≡ declaration_without_bound b vs (declaration_of d)
    → new ≡ old ++ cond (length left.names == 0) [] (left ∷ []) → old ≡ remaining_declarations b vs (map declaration_of (take i ds))
    → new ≡ remaining_declarations b vs (map declaration_of (take (i + 1) ds))
more_remain b vs ds i d left old new h e l n o =
    let w : Declaration → Declaration = declaration_without_bound b vs in
    let some : Declaration → Bool = λ x. not (length x.names == 0) in
    let before = map declaration_of (take i ds) in
    let viewed : map declaration_of (take (i + 1) ds) ≡ before ++ declaration_of d ∷ [] = map_more declaration_of ds i d h
    ∙ ap (λ x. before ++ declaration_of x ∷ []) (sym e) in
    let all : remaining_declarations b vs (map declaration_of (take (i + 1) ds)) ≡ remaining_declarations b vs before ++ filter some (left ∷ [])
    = ap (remaining_declarations b vs) viewed ∙ ap (filter some) (map_push w before (declaration_of d))
    ∙ filter-append some (map w before) (w (declaration_of d) ∷ []) ∙ ap (λ x. remaining_declarations b vs before ++ filter some (x ∷ [])) (sym l) in
    n ∙ ap₂ (λ l r. l ++ r) o (one_left left (length left.names == 0)) ∙ sym all

-- ---- transitions
abbrev made_line : ℕ → Option (Guard (List ℕ)) → List ℕ → List (Assignment (List ℕ)) → SourceTransition
made_line n g s xs = record { line = n; content = record { guard = g; target = s; assignments = xs } }

pub line_is : (f : List ℕ → List ℕ) (l : SourceTransition) (g : Option (Guard (List ℕ))) (s : List ℕ) (xs : List (Assignment (List ℕ)))
    → g ≡ option_map (guard_over f) l.content.guard → s ≡ l.content.target → xs ≡ map (assignment_over f) l.content.assignments
    → made_line l.line g s xs ≡ transition_renamed f l
line_is f l g s xs guard target assigns =
    ap (λ t. made_line l.line g t xs) target
    ∙ ap₂ (λ (h : Option (Guard (List ℕ))) (ys : List (Assignment (List ℕ))). made_line l.line h l.content.target ys) guard assigns
