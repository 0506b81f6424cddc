-- What the code of the hashes asks: tables of sixteen, four semi-octets at once, a remainder by a raised polynomial, and the steps of the
-- loops.
pub mod HashTable
pub mod HashFours
pub mod HashRaised
pub mod HashSteps
