-- The laws of the fields' export: each field has its place, and the five numbers of an answer are read as they were received.
use Rattle.std.specs.Prelude.{◌≡◌, length, get_or}
use Rattle.rate.specs.declared.answer.Numbers.{Numbers}
use Rattle.http_fields.specs.declared.Fields.{Fields}
use Rattle.c_answer.specs.Five.{five}
use Rattle.c_http.specs.Told.{numbers_in, told}

pub record Laws : Type 0 where
  pub how_many : (f : Fields) → length (told f) ≡ 5
  pub quota_at_0 : (f : Fields) → get_or (told f) 0 0 ≡ f.quota
  pub window_at_1 : (f : Fields) → get_or (told f) 1 0 ≡ f.window
  pub remaining_at_2 : (f : Fields) → get_or (told f) 2 0 ≡ f.remaining
  pub reset_at_3 : (f : Fields) → get_or (told f) 3 0 ≡ f.reset
  pub retry_after_at_4 : (f : Fields) → get_or (told f) 4 0 ≡ f.retry_after
  -- what a host hands back is the answer that it received
  pub handed_back : (n : Numbers) → numbers_in (five n) ≡ n
