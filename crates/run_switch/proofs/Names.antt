-- The names of the switch's participants are good.
-- for: serving::run
use Rattle.std.proofs.Common.{◌≡◌, true, codes, refl}
use Rattle.sw_context.specs.Names.{is_name}

pub check_good : is_name (codes "check") ≡ true
unfolding is_name
check_good = refl

pub limits_good : is_name (codes "limits") ≡ true
unfolding is_name
limits_good = refl

pub route_good : is_name (codes "route") ≡ true
unfolding is_name
route_good = refl

pub reverse_good : is_name (codes "reverse") ≡ true
unfolding is_name
reverse_good = refl

pub standin_good : is_name (codes "standin") ≡ true
unfolding is_name
standin_good = refl

pub forward_good : is_name (codes "forward") ≡ true
unfolding is_name
forward_good = refl

pub respond_good : is_name (codes "respond") ≡ true
unfolding is_name
respond_good = refl
