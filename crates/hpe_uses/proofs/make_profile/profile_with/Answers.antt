use Rattle.std.proofs.Common.{rules, ◌≡◌, ◌∙◌}
use Rattle.hpe_base.specs.Validity.{profile_of}
use Rattle.hpe_uses.proofs.Changed.{changed, changed_makes}
use Rattle.hpe_uses.proofs.make_profile.profile_with.Goals as goal

pub returns : goal.returns
returns c =
    let made : c.new.result ≡ profile_of (changed c.basic.result c.args.frame_octets) = search rules in
    made ∙ changed_makes c.basic.result c.args.frame_octets c.basic.ensures
