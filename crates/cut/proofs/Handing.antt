-- A hand-back from its parts: the code's results, each tied to its definition, make up the definition. Assumes nothing.
use mathlib.Core.Path.{◌≡◌, ap, ◌∙◌}
use mathlib.Core.List.{List}
use lib.Ieee.{Float}
use Rattle.flow.specs.Flow as flow
use Rattle.flow.specs.declared.Bucket.{Bucket}
use Rattle.flow.specs.declared.Use.{Use}
use Rattle.sender.specs.declared.Unit.{Unit}
use Rattle.store.specs.Store.{Rows}
use Rattle.head.specs.declared.Flow.{Flow}
use Rattle.head.specs.declared.Shedder.{Shedder}
use Rattle.store_entry.specs.Entering.{Place, Entered, entered, entry, used_at, back, put_back}
use Rattle.head.specs.Headed.{headed}
use Rattle.cut.specs.Cutting.{lowered, flowed_back, kept_by, handed_with, handed_at, handed_back}

pub handed_is : (h : Shedder) (m : Rows) (u : Unit) (cost : List Float)
    (p : Place) (m1 m2 : Rows) (x y sh : Use) (f : Flow)
    → entered p m1 ≡ entry m h.tracked h.unit_room u h.flow.at_ms
    → x ≡ used_at m1 h.overflow p.at
    → y ≡ flow.handed_back x cost
    → back sh m2 ≡ put_back m1 h.overflow p.at y
    → f ≡ flowed_back h.flow cost
    → kept_by (headed h f sh p.tracked) m2 ≡ handed_back (kept_by h m) u cost
unfolding handed_back
handed_is h m u cost p m1 m2 x y sh f eE eU eY eB eF =
    let E : Entered = entered p m1 in
    ap (λ (f : Flow). kept_by (headed h f sh p.tracked) m2) eF
    ∙ ap (handed_with h cost E) (eB ∙ ap (put_back m1 h.overflow p.at) (eY ∙ ap (λ (x : Use). flow.handed_back x cost) eU))
    ∙ ap (handed_at h cost) eE

-- the parts of a flow after a hand-back
pub flowed_back_is : (f : Flow) (cost : List Float) (bs : List Bucket) (admitted : List Float)
    → bs ≡ flow.returned_all f.buckets cost → admitted ≡ lowered f.admitted cost
    → ◌≡◌ {A = Flow} (record { rate = f.rate; ceiling = f.ceiling; buckets = bs; at_ms = f.at_ms; admitted = admitted }) (flowed_back f cost)
unfolding flowed_back
flowed_back_is f cost bs admitted eB eA =
    ap (λ (bs : List Bucket). record { rate = f.rate; ceiling = f.ceiling; buckets = bs; at_ms = f.at_ms; admitted = admitted }) eB
    ∙ ap (λ (a : List Float). record { rate = f.rate; ceiling = f.ceiling; buckets = flow.returned_all f.buckets cost; at_ms = f.at_ms; admitted = a }) eA
