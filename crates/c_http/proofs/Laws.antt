-- The laws of `specs/Laws`: the places by computing, and what is handed back by the places of the five numbers.
-- Assumes nothing.
use mathlib.Core.Path.{◌≡◌, refl}
use Rattle.rate.specs.declared.answer.Numbers.{Numbers}
use Rattle.c_answer.specs.Five.{five}
use Rattle.c_answer.proofs.Laws as answer
use Rattle.c_http.specs.Told.{numbers_in, told}
use Rattle.c_http.specs.Laws.{Laws}

handed_back : (n : Numbers) → numbers_in (five n) ≡ n
unfolding numbers_in
handed_back n k =
    let places = (answer.laws).five_places n in
    record {
      number = places.number k;
      subscriber = places.subscriber k;
      left = places.left k;
      reset = places.reset k;
      wait = places.wait k;
    }

pub laws : Laws
unfolding told
laws =
    record {
      how_many = λ f. refl;
      quota_at_0 = λ f. refl;
      window_at_1 = λ f. refl;
      remaining_at_2 = λ f. refl;
      reset_at_3 = λ f. refl;
      retry_after_at_4 = λ f. refl;
      handed_back = handed_back;
    }
