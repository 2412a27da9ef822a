-- How contracts see the values of a profile.
use Rattle.hpe_base.specs.Parameters.{Parameters, IsInRange}
use Rattle.hpe_base.specs.declared.values.Values.TheInside.{Inside}

abbrev pub parameters_in : Inside → Parameters
parameters_in v = record {
  order = v.order;
  rate = v.rate;
  frame_octets = v.frame_octets;
  frame_marker = v.frame_marker;
  taps = v.taps;
  seed = v.seed;
  check = v.check;
  columns = v.columns.items;
  rows = v.rows;
  delay = v.delay;
  marker = v.marker.items;
  repeat = v.repeat;
  rounds = v.rounds;
  search = v.search;
  count_octets = v.count_octets;
  scale = v.scale;
}

abbrev pub IsInRangeInside : Inside → Type 0
IsInRangeInside v = IsInRange (parameters_in v)
