-- The laws of what a host receives: the five numbers of the call that its plain numbers name, each at its place.
use Rattle.table_token_bucket.specs.Table.{acquire, peek, clear}
use Rattle.c_answer.specs.Laws.{CallPlaces}

abbrev pub Laws : Type 0
Laws = CallPlaces acquire peek clear
