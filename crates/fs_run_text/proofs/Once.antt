-- Each thing that prints has one text.
use Rattle.std.proofs.Common.{◌≡◌, ℕ, Bool, true, false, List, [], ◌∷◌, refl, sym, ◌∙◌, ap, subst}
use Rattle.std.specs.Bool.{Decides}
use Rattle.fs_model.specs.Runs.{Content, Number, Entries, Emitted}
use Rattle.fs_runs.specs.declared.run.RunStop.TheVariants.{StepsOver, PastWide, NoMemory}
use Rattle.fs_run_text.specs.ContentTexts.{array_text, PrintsAs}
use Rattle.fs_runs.specs.Outcomes.{Outputs}
use Rattle.fs_run_text.specs.ItemTexts.{item_text, IsItem, AreItems, IsGiven, AreGiven, SameOutputs}
use Rattle.fs_run_text.specs.EndTexts.{end_text, replay_text, counterexample_text}
use Rattle.fs_run_text.specs.PrintingLaws.{OneContentText, OneEndText, OneStopText, OneReplayText, OneCounterexampleText}
use Rattle.fs_run_text.proofs.Listed.{listing_once}

pub content_once : OneContentText
content_once (Number n) t u a b = a ∙ sym b
content_once (Emitted zs) t u a b = a ∙ sym b
content_once (Entries f) t u a b = a.spelled ∙ ap array_text (listing_once f a.entries b.entries a.listing b.listing) ∙ sym b.spelled

item_once : (outs : Outputs) (name t u : List ℕ) → IsItem outs name t → IsItem outs name u → t ≡ u
item_once outs name t u a b =
    let e : a.content ≡ b.content = cc (a.held, b.held) in
    a.spelled ∙ ap (item_text name) (content_once b.content a.text b.text (subst (λ c. PrintsAs c a.text) e a.shown) b.shown) ∙ sym b.spelled

pub items_once : (outs : Outputs) (names ts us : List (List ℕ)) → AreItems outs names ts → AreItems outs names us → ts ≡ us
items_once outs [] [] [] a b = refl
items_once outs [] [] (u ∷ us) a b = absurd b
items_once outs [] (t ∷ ts) us a b = absurd a
items_once outs (n ∷ ns) [] us a b = absurd a
items_once outs (n ∷ ns) (t ∷ ts) [] a b = absurd b
items_once outs (n ∷ ns) (t ∷ ts) (u ∷ us) a b =
    ap (λ x. x ∷ ts) (item_once outs n t u a.0 b.0) ∙ ap (λ xs. u ∷ xs) (items_once outs ns ts us a.1 b.1)

decided_once : (P : Type 0) (a b : Bool) → Decides a P → Decides b P → a ≡ b
decided_once P true true x y = refl
decided_once P true false x y = sym (y.1 (x.0 refl))
decided_once P false true x y = x.1 (y.0 refl)
decided_once P false false x y = refl

pub end_once : OneEndText
end_once names outs steps t u a b = a.spelled ∙ ap (end_text steps) (items_once outs names a.items b.items a.are_items b.are_items) ∙ sym b.spelled

pub stop_once : OneStopText
stop_once side (StepsOver limit) t u a b = a ∙ sym b
stop_once side (PastWide step) t u a b = a ∙ sym b
stop_once side NoMemory t u a b = absurd a

pub replay_once : OneReplayText
replay_once names left right t u a b =
    let s : a.same ≡ b.same = decided_once (SameOutputs left right) a.same b.same a.decided b.decided in
    let l : a.lefts ≡ b.lefts = items_once left names a.lefts b.lefts a.are_lefts b.are_lefts in
    let r : a.rights ≡ b.rights = items_once right names a.rights b.rights a.are_rights b.are_rights in
    a.spelled ∙ ap (λ x. replay_text x a.lefts a.rights) s ∙ ap (λ x. replay_text b.same x a.rights) l ∙ ap (λ x. replay_text b.same b.lefts x) r
    ∙ sym b.spelled

given_once : (name : List ℕ) (content : Content) (t u : List ℕ) → IsGiven name content t → IsGiven name content u → t ≡ u
given_once name content t u a b = a.spelled ∙ ap (item_text name) (content_once content a.text b.text a.shown b.shown) ∙ sym b.spelled

inputs_once : (names : List (List ℕ)) (cs : List Content) (ts us : List (List ℕ)) → AreGiven names cs ts → AreGiven names cs us → ts ≡ us
inputs_once [] [] [] [] a b = refl
inputs_once [] [] [] (u ∷ us) a b = absurd b
inputs_once [] [] (t ∷ ts) us a b = absurd a
inputs_once [] (c ∷ cs) ts us a b = absurd a
inputs_once (n ∷ ns) [] ts us a b = absurd a
inputs_once (n ∷ ns) (c ∷ cs) [] us a b = absurd a
inputs_once (n ∷ ns) (c ∷ cs) (t ∷ ts) [] a b = absurd b
inputs_once (n ∷ ns) (c ∷ cs) (t ∷ ts) (u ∷ us) a b = ap (λ x. x ∷ ts) (given_once n c t u a.0 b.0) ∙ ap (λ xs. u ∷ xs) (inputs_once ns cs ts us a.1 b.1)

pub counterexample_once : OneCounterexampleText
counterexample_once inputs contents names left right t u a b =
    let g : a.items ≡ b.items = inputs_once inputs contents a.items b.items a.are_given b.are_given in
    let l : a.lefts ≡ b.lefts = items_once left names a.lefts b.lefts a.are_lefts b.are_lefts in
    let r : a.rights ≡ b.rights = items_once right names a.rights b.rights a.are_rights b.are_rights in
    a.spelled ∙ ap (λ x. counterexample_text x a.lefts a.rights) g ∙ ap (λ x. counterexample_text b.items x a.rights) l
    ∙ ap (λ x. counterexample_text b.items b.lefts x) r ∙ sym b.spelled
