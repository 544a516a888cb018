-- `cut_counts::listed` meets its contract. Assumes nothing.
use borrow.Author.Rules.{rules}
use Rattle.std.proofs.Common.{◌≡◌}
use Rattle.cut_counts.proofs.Tallying.{pruned_so, pruned_tags_so}
use Rattle.cut_counts.proofs.listed.Goals as goal

pub returns : goal.returns
returns c =
    let t : c.tags-1.given.0 ≡ c.pruned.new.self.tags.now = search rules in
    let k : c.counted-1.given.0 ≡ c.pruned.new.self.counted.now = search rules in record {
      counted_after = simp k (pruned_so _ _ _ _ _ c.count-n.ensures.counted_after c.pruned.ensures.counted_after);
      tags_after = simp t (pruned_tags_so _ _ _ _ _ _ c.count-n.ensures.counted_after c.count-n.ensures.tags_after c.pruned.ensures.tags_after);
    }
