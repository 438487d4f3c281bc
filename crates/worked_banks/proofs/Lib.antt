mod Hired
