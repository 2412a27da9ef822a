-- How contracts see a feed's fields.
use Rattle.std.specs.Prelude.{◌≡◌, ◌≤◌, take, length}
use Rattle.hpe_frame.specs.Feeding.{Feeding}
use Rattle.hpe_frame.specs.declared.feed.FrameFeed.TheInside.{Inside}

abbrev pub feeding : Inside → Feeding
feeding f = record { parameters = f.profile; held = take f.used f.octets.items }

pub record IsFeeding (f : Inside) : Type 0 where
  pub size : length f.octets.items ≡ f.profile.frame_octets
  pub low : 1 ≤ f.profile.frame_octets
  pub used : f.used ≤ f.profile.frame_octets
