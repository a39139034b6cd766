-- What a sink got of a reply.
use Rattle.std.specs.Prelude.{◌≡◌, ℕ, ◌<◌, List, length, take, Option, Result, Ok, Err}
use Rattle.fs_base.specs.Outside.{SinkTold, Rose, got_after}
use Rattle.fsmd_replies.specs.declared.answer.Status.{Status}
use Rattle.fsmd_replies.specs.declared.answer.Status.TheVariants.{Fault, NoMemory}

-- a status, and what a sink got and how often it had failed before and at the end
pub record Put : Type 0 where
  pub status : Status
  pub got_before : Option (List ℕ)
  pub got_now : Option (List ℕ)
  pub faults_before : ℕ
  pub faults_now : ℕ

-- the same, by what is told of the sink before and now
abbrev pub put_between : Status → (before now : SinkTold) → Put
put_between status before now = record {
  status = status;
  got_before = before.got;
  got_now = now.got;
  faults_before = before.faults;
  faults_now = now.faults;
}

-- the sink got the whole reply
pub record IsWhole (reply : List ℕ) (meant : Status) (p : Put) : Type 0 where
  pub status : p.status ≡ meant
  pub got : p.got_now ≡ got_after p.got_before reply

-- the sink failed, and got a prefix of the reply
pub record IsPartialPut (reply : List ℕ) (p : Put) : Type 0 where
  pub sent : ℕ
  pub status : p.status ≡ Fault
  pub failed : Rose p.faults_before p.faults_now
  pub front : sent < length reply
  pub got : p.got_now ≡ got_after p.got_before (take sent reply)

-- the reply was put whole with its status, or cut
pub data IsPut (reply : List ℕ) (meant : Status) (p : Put) : Type 0 where
  Whole : IsWhole reply meant p → IsPut reply meant p
  Cut : IsPartialPut reply p → IsPut reply meant p

-- how a call ends, by the status that was put, or that there was no memory
abbrev pub end_status : {E : Type 0} → Result Status E → Status
end_status (Ok status) = status
end_status (Err error) = NoMemory
