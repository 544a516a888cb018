-- The counted sources as lent slices: that they are the same ones. Definitions only.
use Rattle.std.specs.Prelude.{◌≡◌, length}
use Rattle.cut_sources.specs.declared.Sources.{Sources}

-- the same slices, as long as they were
pub record SameSources (was is : Sources) : Type 0 where
  pub tags_name : is.tags.ghost_name ≡ was.tags.ghost_name
  pub counted_name : is.counted.ghost_name ≡ was.counted.ghost_name
  pub tags_length : length is.tags.now ≡ length was.tags.now
  pub counted_length : length is.counted.now ≡ length was.counted.now
