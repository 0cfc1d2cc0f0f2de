-- A `HostShelf` tells nothing, so what `Shelf` says of what is told holds whatever the answer.
use Rattle.std.proofs.Common.{Ok, Err, IfOk, OnOk, OnErr, Result, refl}
use Rattle.io_ports.proofs.host.HostShelfShelf.TheImpl.Goals as goal

if_ok : {T E : Type 0} (P : T → Type 0) → ((value : T) → P value) → (result : Result T E) → IfOk result P
if_ok P holds (Ok value) = holds value
if_ok P holds (Err fault) = tt

on_ok : {T E : Type 0} (P : Type 0) → P → (result : Result T E) → OnOk result P
on_ok P holds (Ok value) = holds
on_ok P holds (Err fault) = tt

on_err : {T E : Type 0} (P : Type 0) → P → (result : Result T E) → OnErr result P
on_err P holds (Ok value) = tt
on_err P holds (Err fault) = holds

pub load-tells : goal.load-tells
load-tells g c = record {
  content = if_ok _ (λ value. tt) c.result;
  within = c.ensures.within;
  long = λ too_long. tt;
  files = λ name. refl;
  output = refl;
  count = c.ensures.count;
  cause = c.ensures.cause;
}

pub store-tells : goal.store-tells
store-tells g c = record {
  content = on_ok _ tt c.result;
  others = λ name other. tt;
  output = tt;
  only = c.ensures.only;
  count = c.ensures.count;
  cause = c.ensures.cause;
}

pub say-tells : goal.say-tells
say-tells g c = record {
  ok = on_ok _ tt c.result;
  err = on_err _ tt c.result;
  files = λ name. tt;
  only = c.ensures.only;
  count = c.ensures.count;
  cause = c.ensures.cause;
}
