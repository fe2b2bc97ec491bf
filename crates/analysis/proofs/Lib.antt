-- Laws and theorems that belong to no one function. Laws has those that the functions' proofs cite, by the families of specs; after them come the theorems, in the documents' words: the demands on times, the slack,
-- what stands beside a refusal, what was replaced, and that each public call's contract leaves one answer. Each list is in reading order.
pub mod Laws
pub mod Demands
pub mod Slacks
pub mod Refused
pub mod Former
pub mod Unique
