-- What the test of two sides says.
use Rattle.std.proofs.Common.{◌≡◌, true, refl}
use Rattle.fs_model.specs.declared.sides.Side.{Side}
use Rattle.fs_model.specs.declared.sides.Side.TheVariants.{Left, Right}
use Rattle.fs_model.specs.Sides.{same_side}

pub same_side_self : (d : Side) → same_side d d ≡ true
same_side_self Left = refl
same_side_self Right = refl

pub same_side_is : (d e : Side) → same_side d e ≡ true → d ≡ e
same_side_is Left Left h = refl
same_side_is Left Right h = absurd (cc h)
same_side_is Right Left h = absurd (cc h)
same_side_is Right Right h = refl
