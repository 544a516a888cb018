-- `wants::bucket::bucket_of` meets its contract: the exponent gives the octave, the significand its sixteenth. Assumes nothing.
use Rattle.wants.proofs.Pattern.{number, octave, lower, upper}
use Rattle.wants.proofs.bucket.bucket_of.Goals as goal

pub float_to_bits-bits : goal.float_to_bits-bits
float_to_bits-bits c = rw c.at_least_one-bits.ensures (number c.args.want)

pub overflow_sub-octave : goal.overflow_sub-octave
overflow_sub-octave c = rw c.at_least_one-bits.ensures (octave c.args.want c.well_formed.0.1)

pub returns-then-octave-lt-OCTAVES-clause-value : goal.returns-then-octave-lt-OCTAVES-clause-value
returns-then-octave-lt-OCTAVES-clause-value c = let is = c.at_least_one-bits.ensures in rw is (lower c.args.want c.well_formed.0.1 c.sixteenth.result (rw is at c.if-octave-lt-OCTAVES.true) (rw is at c.sixteenth.ensures))

pub returns-clause-value : goal.returns-clause-value
returns-clause-value c = upper c.args.want c.well_formed.0.1 (rw c.at_least_one-bits.ensures at c.if-octave-lt-OCTAVES.false)
