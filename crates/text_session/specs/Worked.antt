-- Document 01, 'The tabbed text': its example, the whole input and the whole output, with the resets and the number 11 of
-- document 02 (Items 2 and 6). `\t` is a tab and `\n` an LF.
use Rattle.std.specs.Prelude.{ℕ, List, ◌++◌}
use Rattle.text_tsv.specs.Text.{bytes_of}

unfoldable pub input : List ℕ
input =
    bytes_of "plan\t1\t3\t1000\t2\n"
    ++ bytes_of "ask\t1000\t7\t1\n"
    ++ bytes_of "ask\t1000\t7\t1\n"
    ++ bytes_of "ask\t1000\t7\t1\n"
    ++ bytes_of "ask\t1333\t7\t1\n"
    ++ bytes_of "ask\t1334\t7\t1\n"
    ++ bytes_of "ask\t1334\t7\t3\n"
    ++ bytes_of "ask\t1334\t8\t2\n"
    ++ bytes_of "ask\t2000\t8\t2\n"
    ++ bytes_of "ask\t2000\t7\t1\n"
    ++ bytes_of "ask\t1999\t8\t1\n"

unfoldable pub expected : List ℕ
expected =
    bytes_of "outcome\tsubscriber\tleft\treset\twait\n"
    ++ bytes_of "0\t7\t1\t1334\t0\n"
    ++ bytes_of "0\t7\t0\t1667\t0\n"
    ++ bytes_of "8\t7\t0\t1667\t334\n"
    ++ bytes_of "8\t7\t0\t1667\t1\n"
    ++ bytes_of "0\t7\t0\t2000\t0\n"
    ++ bytes_of "6\t7\t0\t0\t0\n"
    ++ bytes_of "9\t8\t0\t0\t0\n"
    ++ bytes_of "0\t8\t0\t2667\t0\n"
    ++ bytes_of "9\t7\t0\t0\t0\n"
    ++ bytes_of "11\t8\t0\t0\t0\n"
