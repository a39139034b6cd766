-- Refusals that are passed on.
use Rattle.std.proofs.Common.{◌≡◌, ◌<◌, ◌≤◌, ℕ, List, Bor, length, Option, Result, Ok, Err, ap, sym, subst, ◌∙◌, arith}
use Rattle.std.specs.Result.{IsErrAnd, IfOk}
use Rattle.term_text.specs.declared.fault.ReadError.{ReadError}
use Rattle.term_text.specs.declared.fault.ReadError.TheVariants.{BadTerm, NoMemory}
use Rattle.term_text.specs.TermTexts.{Atom, TermSyntax}
use Rattle.term_text.specs.Machine.{ForAtom, Goes, atom_done, term_reading}
use Rattle.term_text.specs.AtomStarts.{MadeFrom}

pub still : {X Y : Type 0} (e : ReadError) (text : Option TermSyntax) (go : X → Option TermSyntax) (on : Y → Option TermSyntax)
    → Goes {X = Y} (Err e) text on → Goes {X = X} (Err e) text go
still BadTerm text go on h = h
still NoMemory text go on h = tt

-- what is refused behind the same text
pub refused : {X Y : Type 0} (r : Result X ReadError) (e : ReadError) {now text : Option TermSyntax} (go : X → Option TermSyntax) (on : Y → Option TermSyntax)
    → IsErrAnd r (λ d. d ≡ e) → now ≡ text → Goes {X = Y} (Err e) text on → Goes r now go
refused (Ok x) e go on h s g = absurd h
refused {X} {Y} (Err d) e {now} {text} go on h s g =
    subst (λ t. Goes {X = X} (Err d) t go) (sym s) (subst (λ f. Goes {X = X} (Err f) text go) (sym h) (still e text go on g))

-- what goes on behind a part of the text
pub goes_after : {X : Type 0} (r : Result X ReadError) {now text : Option TermSyntax} (go : X → Option TermSyntax) → now ≡ text → Goes r text go → Goes r now go
goes_after r go s g = subst (λ t. Goes r t go) (sym s) g

-- what is refused behind what was refused
pub refused_after : {X Y : Type 0} (r : Result Y ReadError) (e : ReadError) (text : Option TermSyntax) (go : X → Option TermSyntax) (on : Y → Option TermSyntax)
    → r ≡ Err e → Goes r text on → Goes {X = X} (Err e) text go
refused_after {Y = Y} r e text go on is g = still e text go on (subst (λ (x : Result Y ReadError). Goes x text on) is g)

-- ---- what is made of what was read

-- what goes on behind it
pub goes_made : {X Y : Type 0} (r : Result X ReadError) (s : Result Y ReadError) {is : X → Y → Type 0} {now text : Option TermSyntax}
    (go : X → Option TermSyntax) (on : Y → Option TermSyntax) → MadeFrom r s is → now ≡ text → Goes r text go → ((x : X) (y : Y) → is x y → go x ≡ on y)
    → Goes s now on
goes_made (Ok x) (Ok y) go on m n g e = n ∙ g ∙ e x y m
goes_made (Ok x) (Err BadTerm) go on m n g e = absurd m
goes_made (Ok x) (Err NoMemory) go on m n g e = tt
goes_made (Err d) (Ok y) go on m n g e = absurd m
goes_made {Y = Y} (Err d) (Err f) {now = now} go on m n g e =
    subst (λ (x : ReadError). Goes {X = Y} (Err x) now on) (sym m) (subst (λ t. Goes {X = Y} (Err d) t on) (sym n) (still d _ on go g))

-- what goes on where it is made
pub goes_on : {X Y : Type 0} (r : Result X ReadError) (y : Y) (is : X → Y → Type 0) {text end : Option TermSyntax} (go : X → Option TermSyntax)
    → MadeFrom r (Ok y) is → Goes r text go → ((x : X) → is x y → go x ≡ end) → text ≡ end
goes_on (Ok x) y is go m g e = g ∙ e x m
goes_on (Err d) y is go m g e = absurd m

made_refused : {X Y Z : Type 0} (r : Result X ReadError) (e : ReadError) (is : X → Y → Type 0) (text : Option TermSyntax) (go : Z → Option TermSyntax)
    (on : X → Option TermSyntax) → MadeFrom r (Err e) is → Goes r text on → Goes {X = Z} (Err e) text go
made_refused (Ok x) BadTerm is text go on m g = absurd m
made_refused (Ok x) NoMemory is text go on m g = tt
made_refused {Z = Z} (Err d) e is text go on m g = subst (λ (x : ReadError). Goes {X = Z} (Err x) text go) (sym m) (still d text go on g)

-- what is refused where it is not made
pub refused_making : {X Y Z : Type 0} (r : Result X ReadError) (s : Result Z ReadError) (e : ReadError) (is : X → Y → Type 0) {now text : Option TermSyntax}
    (go : Z → Option TermSyntax) (on : X → Option TermSyntax) → IsErrAnd s (λ d. d ≡ e) → now ≡ text → MadeFrom r (Err e) is → Goes r text on
    → Goes s now go
refused_making {Z = Z} r s e is {text = text} go on h n m g = refused {Y = Z} s e go go h n (made_refused r e is text go on m g)

-- how what is made of an atom's parts goes on
pub same_atom : {a b : Atom} {bs cs : List ℕ} (k : ForAtom) → (b ≡ a) × (cs ≡ bs)
    → term_reading bs (atom_done a k) ≡ term_reading cs (atom_done b k)
same_atom k m = λ j. term_reading (sym m.1 j) (atom_done (sym m.0 j) k)

-- ---- what is left is shorter

-- nothing is left of what is refused
pub none_left : {X : Type 0} (r : Result X ReadError) (e : ReadError) (P : X → Type 0) → IsErrAnd r (λ d. d ≡ e) → IfOk r P
none_left (Ok x) e P h = absurd h
none_left (Err d) e P h = tt

pub less_left : {X : Type 0} {a b : ℕ} (r : Result (X × Bor (List ℕ)) ReadError) → a < b
    → IfOk r (λ x. length x.1.now < a) → IfOk r (λ x. length x.1.now < b)
less_left (Ok x) less h = omega (arith, less, h)
less_left (Err e) less h = tt

-- what is left behind what is made
pub less_made : {X Y : Type 0} {a b : ℕ} (same : X × Bor (List ℕ) → Y × Bor (List ℕ) → Type 0) (r : Result (X × Bor (List ℕ)) ReadError)
    (s : Result (Y × Bor (List ℕ)) ReadError) → MadeFrom r s (λ x y. same x y × (y.1.now ≡ x.1.now)) → a ≤ b → IfOk r (λ x. length x.1.now < a)
    → IfOk s (λ y. length y.1.now < b)
less_made same (Ok x) (Ok y) m n h = omega (arith, n, h, ap length m.1)
less_made same (Ok x) (Err e) m n h = tt
less_made same (Err d) (Ok y) m n h = absurd m
less_made same (Err d) (Err e) m n h = tt

-- what is left behind a part and what was read behind it
pub less_beside : {X Y : Type 0} {a b : ℕ} (part : X) (r : Result (Y × Bor (List ℕ)) ReadError) (s : Result (X × Y × Bor (List ℕ)) ReadError)
    → MadeFrom r s (λ y p. (p.0 ≡ part) × (p.1 ≡ y.0) × (p.2.now ≡ y.1.now)) → a ≤ b → IfOk r (λ x. length x.1.now < a)
    → IfOk s (λ p. length p.2.now < b)
less_beside part (Ok y) (Ok p) m less h = omega (arith, ap length m.2, h, less)
less_beside part (Ok y) (Err e) m less h = tt
less_beside part (Err d) (Ok p) m less h = absurd m
less_beside part (Err d) (Err e) m less h = tt

pub less_on : {X Y : Type 0} (r : Result X ReadError) (y : Y) (is : X → Y → Type 0) {P : X → Type 0} {A : Type 0} → MadeFrom r (Ok y) is → IfOk r P
    → ((x : X) → is x y → P x → A) → A
less_on (Ok x) y is m h f = f x m h
less_on (Err d) y is m h f = absurd m
