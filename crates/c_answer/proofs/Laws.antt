-- The laws of `specs/Laws`, by computing.
-- Assumes nothing.
use mathlib.Core.Path.{refl}
use Rattle.plans.specs.Plans.{Plans}
use Rattle.table.specs.Request.{Query, Request}
use Rattle.table.specs.Calls.{Step}
use Rattle.c_answer.specs.Five.{five}
use Rattle.c_answer.specs.Laws.{Laws, look, ask, CallPlaces}

pub laws : Laws
unfolding five
laws =
    record {
      five_places = λ n.
          record { how_many = refl; number = refl; subscriber = refl; left = refl; reset = refl; wait = refl };
      plan_named = λ limit period burst. refl;
    }

pub call_places :
    {T : Type 0} (acquire : Request Plans → T → Step T) (peek : Query Plans → T → Step T) (clear : T → Step T) →
    CallPlaces acquire peek clear
call_places acquire peek clear =
    record {
      acquire_places = λ plans moment subscriber plan cost t. laws.five_places (acquire (ask plans moment subscriber plan cost) t).answer;
      peek_places = λ plans moment subscriber plan t. laws.five_places (peek (look plans moment subscriber plan) t).answer;
      clear_places = λ t. laws.five_places (clear t).answer;
    }
