-- `composed` meets its contract: the questions in their order, the text composed apart from the caller's buffer.
use mathlib.Core.Path.{◌≡◌, refl, sym, ap, ◌∙◌}
use native.Mathlib.Omega.{arith}
use mathlib.Core.List.{List}
use Prim.Native.Nat.{ℕ}
use lib.ListN.{length}
use Rattle.report_lines.specs.Lines.{text}
use Rattle.report.specs.Report.{lines}
use Rattle.std.proofs.Common.{Ok, Err, rules}
use Rattle.head.specs.Answers.{refusal_of}
use Rattle.head.specs.Questions.{memory_whole}
use Rattle.store.specs.Held.{read_rows}
use Rattle.head.proofs.Reading.{read_refused, read_answered}
use Rattle.report.proofs.Asking.{counted_held, asked_head, asked_memory, asked_room, asked_none, refused, taken}
use Rattle.report.proofs.composed.Goals as goal

pub returns-in_err-read_asked : goal.returns-in_err-read_asked
unfolding refusal_of
returns-in_err-read_asked c =
    let r = read_refused c.args.head c.args.lent.now.offsets.now c.read_asked.result _ c.in_err-read_asked.was c.read_asked.ensures in
    let q : c.from_residual.result ≡ Err c.in_err-read_asked.field-0.0 = search rules in
    let w = refused c.args.head (read_rows c.args.lent.now) c.args.lent.now.counted.now c.args.room 3 _ _ c.args.own.now refl refl (asked_head c.args.head (read_rows c.args.lent.now) c.args.lent.now.counted.now c.args.room r.0) (q ∙ ap Err r.1) in
    record {
      value = w.0;
      prefix_len = w.1;
      own_after = w.2;
    }

pub returns-then-not-memory_whole : goal.returns-then-not-memory_whole
unfolding refusal_of
returns-then-not-memory_whole c =
    let whole = read_answered c.args.head c.args.lent.now.offsets.now c.read_asked.result _ c.in_ok-read_asked.was c.read_asked.ensures in
    let w = refused c.args.head (read_rows c.args.lent.now) c.args.lent.now.counted.now c.args.room 4 _ _ c.args.own.now refl refl (asked_memory c.args.head (read_rows c.args.lent.now) c.args.lent.now.counted.now c.args.room whole (sym (c.memory_whole.ensures ∙ ap (memory_whole c.args.head) c.sizes.ensures) ∙ c.if-not-memory_whole.true)) refl in
    record {
      value = w.0;
      prefix_len = w.1;
      own_after = w.2;
    }

pub source_tags-tags-requires : goal.source_tags-tags-requires
source_tags-tags-requires c =
    (counted_held _ (read_rows c.args.lent.now) c.args.lent.now.counted.now (read_answered c.args.head c.args.lent.now.offsets.now c.read_asked.result _ c.in_ok-read_asked.was c.read_asked.ensures)
    (sym (c.memory_whole.ensures ∙ ap (memory_whole c.args.head) c.sizes.ensures) ∙ c.if-not-memory_whole.false)).room

pub write_text-n-requires : goal.write_text-n-requires
write_text-n-requires c =
    let w = counted_held _ (read_rows c.args.lent.now) c.args.lent.now.counted.now (read_answered c.args.head c.args.lent.now.offsets.now c.read_asked.result _ c.in_ok-read_asked.was c.read_asked.ensures)
    (sym (c.memory_whole.ensures ∙ ap (memory_whole c.args.head) c.sizes.ensures) ∙ c.if-not-memory_whole.false) in record {
      counted_in_bounds = omega (arith, w.behind, ap (length {A = ℕ}) c.source_tags-tags.ensures);
      counted_in_bounds_2 = w.held;
    }

pub returns-then-room-n : goal.returns-then-room-n
unfolding refusal_of
returns-then-room-n c =
    let whole = read_answered c.args.head c.args.lent.now.offsets.now c.read_asked.result _ c.in_ok-read_asked.was c.read_asked.ensures in
    let e = c.write_text-n.ensures in
    let t : text c.args.head c.source_tags-tags.result.now c.args.lent.now.counted.now ≡ lines c.args.head (read_rows c.args.lent.now) c.args.lent.now.counted.now =
    ap (λ (x : List ℕ). text c.args.head x c.args.lent.now.counted.now) c.source_tags-tags.ensures in
    let n : c.write_text-n.result ≡ length (lines c.args.head (read_rows c.args.lent.now) c.args.lent.now.counted.now) = e.prefix_len.1 ∙ ap length (e.own_after ∙ t) in
    let w = refused c.args.head (read_rows c.args.lent.now) c.args.lent.now.counted.now c.args.room 7 _ _ c.write_text-n.new.own refl refl (asked_room c.args.head (read_rows c.args.lent.now) c.args.lent.now.counted.now c.args.room whole (sym (c.memory_whole.ensures ∙ ap (memory_whole c.args.head) c.sizes.ensures) ∙ c.if-not-memory_whole.false) (omega (arith, n, c.if-room-n.true))) refl in
    record {
      value = w.0;
      prefix_len = w.1;
      own_after = w.2;
    }

pub returns : goal.returns
returns c =
    let whole = read_answered c.args.head c.args.lent.now.offsets.now c.read_asked.result _ c.in_ok-read_asked.was c.read_asked.ensures in
    let e = c.write_text-n.ensures in
    let t : text c.args.head c.source_tags-tags.result.now c.args.lent.now.counted.now ≡ lines c.args.head (read_rows c.args.lent.now) c.args.lent.now.counted.now =
    ap (λ (x : List ℕ). text c.args.head x c.args.lent.now.counted.now) c.source_tags-tags.ensures in
    let n : c.write_text-n.result ≡ length (lines c.args.head (read_rows c.args.lent.now) c.args.lent.now.counted.now) = e.prefix_len.1 ∙ ap length (e.own_after ∙ t) in
    let w = taken c.args.head (read_rows c.args.lent.now) c.args.lent.now.counted.now c.args.room (asked_none c.args.head (read_rows c.args.lent.now) c.args.lent.now.counted.now c.args.room whole (sym (c.memory_whole.ensures ∙ ap (memory_whole c.args.head) c.sizes.ensures) ∙ c.if-not-memory_whole.false) (omega (arith, n, c.if-room-n.false))) in
    record {
      value = ap Ok n ∙ w.0;
      prefix_len = e.prefix_len;
      own_after = e.own_after ∙ (t ∙ w.1);
    }
