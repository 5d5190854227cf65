-- The ruleset for tests: what a branch showed turns a definition's test into true or false.
use borrow.Author.Tests.{eq-eqb, ne_eqb, lt-ltb, le-ltb, le-leb, lt-leb}

pub ruleset tests = (eq-eqb, ne_eqb, lt-ltb, le-ltb, le-leb, lt-leb)
