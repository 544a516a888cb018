-- `report_ranking::label_less_at` meets its contract: keys by their words, others by what they read as. Assumes nothing.
use mathlib.Core.Path.{sym, ◌∙◌}
use Rattle.report_ranking.proofs.Keys.{both_keys, first_key, second_key, keys_same, both_same}
use Rattle.report_ranking.proofs.Taken.{words_key, words_other, words_unlike, by_tags}
use Rattle.report_ranking.proofs.label_less_at.Goals as goal

pub returns-then-tagged : goal.returns-then-tagged
returns-then-tagged c = c.read_less_at.ensures ∙ both_same _ _ _ _ (sym (by_tags _ _ _ _ c.if-tagged.true)) (sym (by_tags _ _ _ _ c.if-tagged.true))

pub returns-then-x-eq0 : goal.returns-then-x-eq0
returns-then-x-eq0 c =
    c.key_less.ensures ∙ keys_same _ _ _ _ c.key_in.ensures c.key_in-then-x-eq0.ensures
    ∙ both_keys _ _ _ _
    (words_key _ _ _ c.requires.i_in_bounds c.requires.i_in_bounds_2 _ c.if-tagged.false _ c.words_at-x.ensures c.if-x-eq0.true)
    (words_key _ _ _ c.requires.j_in_bounds c.requires.j_in_bounds_2 _ c.if-tagged.false _ c.words_at-y.ensures c.if-y-eq0.true)

pub returns-then-y-eq0 : goal.returns-then-y-eq0
returns-then-y-eq0 c =
    second_key _ _ _
    (words_unlike _ _ _ c.requires.i_in_bounds c.requires.i_in_bounds_2 _ c.if-tagged.false _ c.words_at-x.ensures c.if-x-eq0.false)
    (words_key _ _ _ c.requires.j_in_bounds c.requires.j_in_bounds_2 _ c.if-tagged.false _ c.words_at-y.ensures c.if-y-eq0.true)

pub returns-then-x-eq0-2 : goal.returns-then-x-eq0-2
returns-then-x-eq0-2 c =
    first_key _ _ _
    (words_key _ _ _ c.requires.i_in_bounds c.requires.i_in_bounds_2 _ c.if-tagged.false _ c.words_at-x.ensures c.if-x-eq0-2.true)
    (words_unlike _ _ _ c.requires.j_in_bounds c.requires.j_in_bounds_2 _ c.if-tagged.false _ c.words_at-y.ensures c.if-y-eq0.false)

pub returns : goal.returns
returns c =
    c.read_less_at-2.ensures
    ∙ both_same _ _ _ _
    (sym (words_other _ _ _ c.requires.i_in_bounds c.requires.i_in_bounds_2 _ c.if-tagged.false _ c.words_at-x.ensures c.if-x-eq0-2.false))
    (sym (words_other _ _ _ c.requires.j_in_bounds c.requires.j_in_bounds_2 _ c.if-tagged.false _ c.words_at-y.ensures c.if-y-eq0.false))
